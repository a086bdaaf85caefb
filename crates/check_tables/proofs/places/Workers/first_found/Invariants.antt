use Rattle.std.proofs.Common.{◌≡◌, ◌++◌}
use Rattle.std.specs.Slice.Iter.{chunks_rest}
use Rattle.check_tables.specs.Places.{joined}
use Rattle.check_tables.proofs.places.Workers.first_found.Given as goal

-- the pieces so far and the items that are left are the list
abbrev pub invariant-loop-part : goal.invariant-loop-part
invariant-loop-part g l =
    (goal.iterator-loop-part g).can_next l.part-iterator
    × (goal.iterator-loop-part g).is_finite l.part-iterator
    × (joined l.parts.items ++ chunks_rest l.part-iterator ≡ l.items)
