use Rattle.std.proofs.Common.{◌≡◌, true}
use Rattle.std.specs.List.{list_all}
use Rattle.crossed_copy.specs.Copied.{is_of_part}
use Rattle.crossed_copy.proofs.copying.short_ones.Given as goal

-- those so far are of the part
abbrev pub invariant-loop-position : goal.invariant-loop-position
invariant-loop-position l = list_all (is_of_part l.over) l.short.items ≡ true
