use Rattle.std.proofs.Common.{◌≡◌, take}
use Rattle.part_copy.specs.Found.{are_filled}
use Rattle.test_parts.proofs.deciding.is_filled.Given as goal

-- as far as they were looked at
abbrev pub invariant-loop-position : goal.invariant-loop-position
invariant-loop-position l = l.filled ≡ are_filled l.f (take l.position-index l.part)
