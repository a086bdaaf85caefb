use Rattle.std.proofs.Common.{◌≡◌, ℕ, ◌&&◌, not, length, take}
use Rattle.lk_model.specs.Formulas.Literal.{mentions}
use Rattle.lk_model.specs.Held.VariableSets.{is_in}
use Rattle.lk_model.proofs.crossed.VarSet.remove_clause.Given as goal

-- the variables so far are out
abbrev pub invariant-loop-l : goal.invariant-loop-l
invariant-loop-l l = record {
  size : length l.self ≡ length l.initial.self;
  vars : (v : ℕ) → is_in l.self v ≡ (is_in l.initial.self v && not (mentions (take l.l-index l.clause) v));
}
