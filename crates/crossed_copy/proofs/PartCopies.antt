-- Positions of a part, and the copy of the crossed clauses there.
use Rattle.std.proofs.Common.{◌≡◌, ℕ, true, nat_le, List, refl, sym, ◌∙◌, ap, subst, length, arith}
use Rattle.std.specs.List.{list_all}
use Rattle.std.proofs.lemmas.Bool.{leb-true}
use Rattle.lk_model.specs.Lists.{among, is_between, rises_within}
use Rattle.lk_model.specs.Formulas.Formula.{Cnf, clause_at, clauses_at, positions_of}
use Rattle.lk_model.specs.Formulas.Crossed.{crossed_out, formula_without}
use Rattle.lk_model.specs.Held.VariableSets.{is_in}
use Rattle.lk_model.specs.declared.crossed.Crossed.{Crossed}
use Rattle.lk_model.proofs.Booleans.{and_true}
use Rattle.lk_model.proofs.ListTests.{one_number}
use Rattle.dense_copy.specs.Names.{AreInOrder}
use Rattle.renaming_laws.specs.Renaming.{IsDense}
use Rattle.renaming_laws.specs.CrossedCopies.{IsCrossedDense}
use Rattle.renaming_laws.proofs.Copies.{all_clauses}
use Rattle.renaming_laws.proofs.Mapped.{map_twice}
use Rattle.crossed_copy.specs.Copied.{is_of_part, ArePositions}

-- positions of the part, in order
pub in_part : (over : Crossed) (ps rising : List ℕ) → list_all (is_of_part over) ps ≡ true → AreInOrder ps rising → ArePositions over rising
in_part over ps rising all order = record {
  ascend = order.rise 0 (length over.formula.now.clauses) (λ p m.
      let least_most = and_true (nat_le 1 p) (nat_le p (length over.formula.now.clauses)) (of_part p m).0 in
      let least = leb-true 1 p least_most.0 in
      (omega (arith, least), leb-true p (length over.formula.now.clauses) least_most.1));
  within = λ p m. (of_part p (sym (order.same p) ∙ m)).1;
}
  where
    of_part : (p : ℕ) → among ps p ≡ true → (is_between 1 (length over.formula.now.clauses) p ≡ true) × (among over.part.now p ≡ true)
    of_part p m = and_true (is_between 1 (length over.formula.now.clauses) p) (among over.part.now p) (one_number (is_of_part over) ps p all m)

-- the crossed clauses at some positions are all clauses of a formula, of which a copy is made
pub crossed_dense : (over : Crossed) (C G : Cnf) (ps names : List ℕ) → C ≡ formula_without (clauses_at over.formula.now ps) (is_in over.blocked.now)
    → IsDense C (positions_of C) names G → IsCrossedDense over.formula.now (is_in over.blocked.now) ps names G
crossed_dense over C G ps names is dense = record {
  ascend = subst (λ (n : ℕ). rises_within 0 n names ≡ true) (ap (λ (H : Cnf). H.vars) is) dense.ascend;
  vars = dense.vars;
  formula = dense.formula;
  clauses = dense.clauses ∙ all_clauses C ∙ ap (λ (H : Cnf). H.clauses) is
      ∙ map_twice (clause_at over.formula.now) (crossed_out (is_in over.blocked.now)) (λ p. crossed_out (is_in over.blocked.now) (clause_at over.formula.now p)) (λ p. refl) ps;
}
