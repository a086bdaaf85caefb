use Rattle.std.proofs.Common.{◌≡◌, true, take}
use Rattle.std.specs.List.{list_all}
use Rattle.unit_refutations.proofs.NoneContained.{none_at}
use Rattle.unit_refutations.proofs.containing.contains_none.Given as goal

-- at the literals so far none is contained
abbrev pub invariant-loop-l : goal.invariant-loop-l
invariant-loop-l l = list_all (none_at l.over l.lists l.clause) (take l.l-index l.clause) ≡ true
