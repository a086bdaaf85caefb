-- {1}, {1} and {-1}: three clauses and one variable, so the greatest deficiency is 2.
use Rattle.std.specs.Prelude.{◌≡◌, ◌≤◌, ◌+◌, ℕ, zero, suc, Bool, List, [], ◌∷◌, length, IsTrue, refl}
use Rattle.std.proofs.Common.{arith}
use Rattle.lk_model.specs.Formulas.Formula.{variables_at, variable_occurs}
use Rattle.lk_model.specs.Formulas.Lean.{are_positions}
use Rattle.lk_model.proofs.Rising.{rising_count}
use Rattle.deficiency.specs.Deficiency.{HasDeficiency, IsMaxDeficiency}
use Rattle.test_definitions.proofs.WorkedDocuments.{unbalanced_units}

-- all three clauses together have it
attained : HasDeficiency unbalanced_units (1 ∷ 2 ∷ 3 ∷ []) 2
attained = refl

-- two of them have 1
two_clauses : HasDeficiency unbalanced_units (1 ∷ 3 ∷ []) 1
two_clauses = refl

-- a set that is not empty has the variable 1, and at most three clauses
most : (ps : List ℕ) → IsTrue (are_positions unbalanced_units ps) → length ps ≤ length (variables_at unbalanced_units ps) + 2
most [] h = omega arith
most (p ∷ ps) h = with_variable (variable_occurs unbalanced_units (p ∷ ps) 1) (occurs p ps h) refl
  where
    occurs : (p : ℕ) (ps : List ℕ) → IsTrue (are_positions unbalanced_units (p ∷ ps)) → IsTrue (variable_occurs unbalanced_units (p ∷ ps) 1)
    occurs zero ps h = absurd (let f : ⊥ = cc in f)
    occurs (suc zero) ps h = refl
    occurs (suc (suc zero)) ps h = refl
    occurs (suc (suc (suc zero))) ps h = refl
    occurs (suc (suc (suc (suc p)))) ps h = absurd (let f : ⊥ = grind (arith, h) in f)

    with_variable : (b : Bool) → IsTrue b → variable_occurs unbalanced_units (p ∷ ps) 1 ≡ b → length (p ∷ ps) ≤ length (variables_at unbalanced_units (p ∷ ps)) + 2
    with_variable b t e = rw (e, t) (let few = rising_count 0 3 (p ∷ ps) h (omega arith) in omega (arith, few))

greatest : IsMaxDeficiency unbalanced_units 2
greatest = record { attained = (1 ∷ 2 ∷ 3 ∷ [], refl, attained); most = most }
