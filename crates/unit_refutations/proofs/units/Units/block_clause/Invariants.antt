use Rattle.std.proofs.Common.{◌≡◌, ◌||◌, ℕ, length, take}
use Rattle.lk_model.specs.Formulas.Literal.{mentions}
use Rattle.lk_model.specs.Held.VariableSets.{is_in}
use Rattle.unit_refutations.specs.Standing.{IsKept}
use Rattle.unit_refutations.proofs.units.Units.block_clause.Given as goal

-- the variables of the literals so far are blocked
abbrev pub invariant-loop-l : goal.invariant-loop-l
invariant-loop-l l = record {
  size : length l.blocked ≡ length l.fn.blocked;
  vars : (v : ℕ) → is_in l.blocked v ≡ (is_in l.fn.blocked v || mentions (take l.l-index l.l-items) v);
  kept : IsKept l.f l.blocked l.self;
  inside : l.self.agenda.inside ≡ l.initial.self.agenda.inside;
}
