use Rattle.std.proofs.Common.{◌≡◌}
use Rattle.general_kernel.specs.TrimmedRounds.{rounds_of}
use Rattle.general_kernel.proofs.rounds.open_all.Given as goal

-- those so far
abbrev pub invariant-loop-log : goal.invariant-loop-log
invariant-loop-log l = l.rounds ≡ rounds_of l.yielded
