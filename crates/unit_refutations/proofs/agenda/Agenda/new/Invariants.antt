use Rattle.std.proofs.Common.{◌≡◌, ℕ, length, take}
use Rattle.lk_model.specs.Lists.{among}
use Rattle.lk_model.specs.Held.VariableSets.{is_in}
use Rattle.unit_refutations.proofs.agenda.Agenda.new.Given as goal

-- the positions so far are inside
abbrev pub invariant-loop-position : goal.invariant-loop-position
invariant-loop-position l = record {
  size : length l.agenda.inside ≡ length l.f.clauses;
  inside : (p : ℕ) → is_in l.agenda.inside p ≡ among (take l.position-index l.part) p;
}
