-- A formula has a general kernel.
use Rattle.std.proofs.Common.{◌≡◌, ℕ, Bool, true, not, ◌&&◌, inl, inr}
use Rattle.std.specs.List.{list_any}
use Rattle.std.proofs.lemmas.Bool.{cases_Bool, both_ways, and_from, not_from_false, not-true, false_from_ne_true}
use Rattle.lk_model.specs.declared.class.Class.TheVariants as class
use Rattle.lk_model.specs.Formulas.Formula.{Cnf, clause_at, is_formula, positions_of}
use Rattle.lk_model.specs.Formulas.Crossed.{Variables, formula_without}
use Rattle.lk_model.specs.Formulas.Assignment.{Assignment, touches, satisfies}
use Rattle.lk_model.specs.Formulas.Autarky.{Positions, Within, IsAutarky}
use Rattle.lk_model.specs.Formulas.Lean.{all_of}
use Rattle.lk_model.specs.Held.PartialValues.{assignment_by}
use Rattle.lk_model.proofs.Booleans.{and_true}
use Rattle.lk_model.proofs.ListTests.{passing, passes_among}
use Rattle.kernel_laws.specs.KernelLaw.{HasKernel}
use Rattle.kernel_laws.proofs.Occurrences.{in_positions}
use Rattle.document_laws.proofs.Existence.Searching.{IsDecided, decided_by, kernel_by_search}

-- a clause of the set is touched and not satisfied
fails_at : Cnf → Positions → Assignment → ℕ → Bool
fails_at F S φ p = S p && (touches φ (clause_at F p) && not (satisfies φ (clause_at F p)))

autarky_decided : (F : Cnf) (S : Positions) → Within S (all_of F) → (φ : Assignment) → IsDecided (IsAutarky F S φ)
unfolding fails_at
autarky_decided F S within φ = decided_by (not (list_any (fails_at F S φ) (positions_of F)))
    (λ e p there touched. elim (cases_Bool (satisfies φ (clause_at F p))) [
      | inl s ↦ s
      | inr n ↦ absurd (both_ways (list_any (fails_at F S φ) (positions_of F)) (not-true (list_any (fails_at F S φ) (positions_of F)) e)
          (passes_among (fails_at F S φ) (positions_of F) p (in_positions F p (within p there))
          (and_from (S p) _ there (and_from (touches φ (clause_at F p)) _ touched (not_from_false (satisfies φ (clause_at F p)) n)))))
    ])
    (λ a. not_from_false (list_any (fails_at F S φ) (positions_of F)) (false_from_ne_true _ (λ e.
    let w = passing (fails_at F S φ) (positions_of F) e in
    let both = and_true (S w.0) (touches φ (clause_at F w.0) && not (satisfies φ (clause_at F w.0))) w.2 in
    let more = and_true (touches φ (clause_at F w.0)) (not (satisfies φ (clause_at F w.0))) both.1 in
    both_ways (satisfies φ (clause_at F w.0)) (not-true (satisfies φ (clause_at F w.0)) more.1) (a w.0 both.0 more.0))))

pub general_exists : (P : Variables) (F : Cnf) → is_formula F ≡ true → HasKernel P class.General F
general_exists P F form = kernel_by_search P class.General F form (λ S within values. autarky_decided (formula_without F P) S within (assignment_by values))
