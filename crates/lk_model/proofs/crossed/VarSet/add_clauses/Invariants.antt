use Rattle.std.proofs.Common.{◌≡◌, ℕ, ◌||◌, length, take}
use Rattle.lk_model.specs.Formulas.Formula.{variable_occurs}
use Rattle.lk_model.specs.Held.VariableSets.{is_in}
use Rattle.lk_model.proofs.crossed.VarSet.add_clauses.Given as goal

-- the variables of the clauses so far are in
abbrev pub invariant-loop-p : goal.invariant-loop-p
invariant-loop-p l = record {
  size : length l.self ≡ length l.initial.self;
  vars : (v : ℕ) → is_in l.self v ≡ (is_in l.initial.self v || variable_occurs l.f (take l.p-index l.positions) v);
}
