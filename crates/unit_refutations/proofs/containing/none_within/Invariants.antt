use Rattle.std.proofs.Common.{◌≡◌, true, take}
use Rattle.lk_model.specs.Held.VariableSets.{is_in}
use Rattle.unit_refutations.specs.Contained.{none_within_but}
use Rattle.unit_refutations.proofs.containing.none_within.Given as goal

-- none of those so far is
abbrev pub invariant-loop-position : goal.invariant-loop-position
invariant-loop-position l = none_within_but l.over.formula.now (is_in l.over.blocked.now) l.clause (take l.position-index l.positions) ≡ true
