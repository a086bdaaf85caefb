use Rattle.mus_core.specs.Rotations.{WentOn}
use Rattle.mus_core.proofs.rotation.go_on.Given as goal

abbrev pub invariant-loop-i : goal.invariant-loop-i
invariant-loop-i l = WentOn l.core l.fn.witnesses l.witnesses l.walk.places.items
