use Rattle.std.proofs.Common.{take}
use Rattle.lk_model.specs.Held.PartialValues.{assignment_by}
use Rattle.mus_core.specs.Rotations.{fails}
use Rattle.mus_core.proofs.Rotated.{FoundIn}
use Rattle.mus_core.proofs.rotation.only_failing.Given as goal

-- so far the clause at one place fails, or none
abbrev pub invariant-loop-k : goal.invariant-loop-k
invariant-loop-k l = FoundIn (fails l.core (assignment_by l.values) l.l) (take l.k-index l.k-items) l.found
