use Rattle.std.proofs.Common.{◌≡◌, ℕ, ◌||◌, length, take}
use Rattle.lk_model.specs.Formulas.Literal.{mentions}
use Rattle.lk_model.specs.Held.VariableSets.{is_in}
use Rattle.lk_model.proofs.crossed.VarSet.add_clause.Given as goal

-- the variables so far are in
abbrev pub invariant-loop-l : goal.invariant-loop-l
invariant-loop-l l = record {
  size : length l.self ≡ length l.initial.self;
  vars : (v : ℕ) → is_in l.self v ≡ (is_in l.initial.self v || mentions (take l.l-index l.clause) v);
}
