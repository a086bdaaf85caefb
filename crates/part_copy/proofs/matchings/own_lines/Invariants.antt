use Rattle.std.proofs.Common.{◌≡◌, ◌++◌, map, take, drop}
use Rattle.part_copy.specs.Renamed.{renamed_own}
use Rattle.part_copy.proofs.matchings.own_lines.Given as goal

abbrev pub invariant-loop-line : goal.invariant-loop-line
invariant-loop-line l =
    l.line-items ≡ map (renamed_own l.part l.names) (take l.line-index l.fn.own) ++ drop l.line-index l.fn.own
