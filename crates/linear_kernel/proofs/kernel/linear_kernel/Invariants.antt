use Rattle.linear_run_laws.specs.MovesLaw.{room}
use Rattle.linear_kernel.proofs.Moments.{GoesOn}
use Rattle.linear_kernel.proofs.kernel.linear_kernel.Given as goal

-- from the moment the run ends as the linear run does
abbrev pub invariant-moves : goal.invariant-moves
invariant-moves l = GoesOn l.f l.pivots l.run

abbrev pub decreases-moves : goal.decreases-moves
decreases-moves l = room l.pivots l.run
