use Rattle.std.proofs.Common.{◌≡◌, take}
use Rattle.dense_copy.specs.Names.{variables_of}
use Rattle.dense_copy.proofs.names.names_of.Given as goal

abbrev pub invariant-loop-position : goal.invariant-loop-position
invariant-loop-position l = l.names.items ≡ variables_of l.f (take l.position-index l.part)
