use Rattle.mus_core.specs.Rotations.{WentOn}
use Rattle.mus_core.proofs.rotation.flip_each.Given as goal

abbrev pub invariant-loop-l : goal.invariant-loop-l
invariant-loop-l l = WentOn l.core l.fn.witnesses l.witnesses l.walk.places.items
