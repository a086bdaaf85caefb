use Rattle.std.proofs.Common.{◌≡◌, ◌++◌, map, take, drop}
use Rattle.part_copy.specs.Renamed.{renamed_row}
use Rattle.part_copy.proofs.matchings.rows.Given as goal

abbrev pub invariant-loop-row : goal.invariant-loop-row
invariant-loop-row l =
    l.row-items ≡ map (renamed_row l.part l.names) (take l.row-index l.fn.rows) ++ drop l.row-index l.fn.rows
