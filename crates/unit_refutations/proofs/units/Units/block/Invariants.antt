use Rattle.std.proofs.Common.{◌≡◌, ◌||◌, ℕ, length, take}
use Rattle.lk_model.specs.Formulas.Formula.{variable_occurs}
use Rattle.lk_model.specs.Held.VariableSets.{is_in}
use Rattle.unit_refutations.specs.Standing.{IsKept}
use Rattle.unit_refutations.proofs.units.Units.block.Given as goal

-- the variables of the clauses so far are blocked
abbrev pub invariant-loop-position : goal.invariant-loop-position
invariant-loop-position l = record {
  size : length l.blocked ≡ length l.fn.blocked;
  vars : (v : ℕ) → is_in l.blocked v ≡ (is_in l.fn.blocked v || variable_occurs l.f (take l.position-index l.positions) v);
  kept : IsKept l.f l.blocked l.self;
  inside : l.self.agenda.inside ≡ l.initial.self.agenda.inside;
}
