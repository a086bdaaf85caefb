-- Two units that clash are minimally unsatisfiable, and with a clause apart from them they are not.
use Rattle.std.specs.Prelude.{◌≡◌, ℕ, zero, suc, Bool, true, false, [], ◌∷◌, pos, negsuc, Option, Some, None, refl, IsTrue}
use Rattle.std.proofs.Common.{arith}
use Rattle.lk_model.specs.Lists.{among}
use Rattle.lk_model.specs.Formulas.Formula.{clause_at}
use Rattle.lk_model.specs.Formulas.Assignment.{assignment_of, satisfies}
use Rattle.lk_model.specs.Formulas.Autarky.{Positions, Within}
use Rattle.lk_model.specs.Formulas.Lean.{all_of}
use Rattle.lk_model.specs.Formulas.Minimal.{IsSatisfiable, IsUnsatisfiable, IsMinimallyUnsatisfiable}
use Rattle.test_definitions.proofs.WorkedDocuments.{clash}

abbrev units : Positions
units = among (1 ∷ 2 ∷ [])

only_two : (p : ℕ) → IsTrue (units (suc (suc (suc p)))) → ⊥
only_two p h = grind (arith, h)

-- no value of 1 satisfies both
unsatisfiable : IsUnsatisfiable clash units
unsatisfiable φ m = at (φ 1) (m 1 refl) (m 2 refl)
  where
    at : (a : Option Bool) → satisfies (λ _. a) (pos 1 ∷ []) ≡ true → satisfies (λ _. a) (negsuc 0 ∷ []) ≡ true → ⊥
    at None e f = cc
    at (Some true) e f = cc
    at (Some false) e f = cc

-- and each of them alone has a model
without_first : (T : Positions) → Within T units → T 1 ≡ false → IsSatisfiable clash T
without_first T within out = (assignment_of (negsuc 0 ∷ []), at)
  where
    at : (p : ℕ) → IsTrue (T p) → IsTrue (satisfies (assignment_of (negsuc 0 ∷ [])) (clause_at clash p))
    at zero t = absurd (let h = within 0 t in let f : ⊥ = cc in f)
    at (suc zero) t = absurd (let f : ⊥ = cc in f)
    at (suc (suc zero)) t = refl
    at (suc (suc (suc p))) t = absurd (only_two p (within (suc (suc (suc p))) t))

without_second : (T : Positions) → Within T units → T 2 ≡ false → IsSatisfiable clash T
without_second T within out = (assignment_of (pos 1 ∷ []), at)
  where
    at : (p : ℕ) → IsTrue (T p) → IsTrue (satisfies (assignment_of (pos 1 ∷ [])) (clause_at clash p))
    at zero t = absurd (let h = within 0 t in let f : ⊥ = cc in f)
    at (suc zero) t = refl
    at (suc (suc zero)) t = absurd (let f : ⊥ = cc in f)
    at (suc (suc (suc p))) t = absurd (only_two p (within (suc (suc (suc p))) t))

minimal : IsMinimallyUnsatisfiable clash units
minimal = record { unsatisfiable = unsatisfiable; proper = proper }
  where
    proper : (T : Positions) → Within T units → (p : ℕ) → IsTrue (units p) → T p ≡ false → IsSatisfiable clash T
    proper T within zero s out = absurd (let f : ⊥ = cc in f)
    proper T within (suc zero) s out = without_first T within out
    proper T within (suc (suc zero)) s out = without_second T within out
    proper T within (suc (suc (suc p))) s out = absurd (only_two p s)

-- all three clauses are not: the third is not needed
within_all : Within units (all_of clash)
within_all zero u = absurd (let f : ⊥ = cc in f)
within_all (suc zero) u = refl
within_all (suc (suc zero)) u = refl
within_all (suc (suc (suc p))) u = absurd (only_two p u)

not_minimal : IsMinimallyUnsatisfiable clash (all_of clash) → ⊥
not_minimal m = let model = m.proper units within_all 3 refl refl in unsatisfiable model.0 model.1
