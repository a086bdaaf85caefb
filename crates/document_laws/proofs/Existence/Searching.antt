-- Where it is decided of each assignment by values whether it is an autarky, there is a kernel.
use Rattle.std.proofs.Common.{◌≡◌, ℕ, zero, suc, ◌≤◌, ◌+◌, Bool, true, false, not, ◌&&◌, List, [], ◌∷◌, filter, length, sym, subst, arith, Option, Some, None, ◌⊎◌, inl, inr}
use Rattle.std.specs.List.{list_any}
use Rattle.std.proofs.lemmas.Bool.{cases_Bool, both_ways, not-true, not_from_false, and_from, false_from_ne_true}
use Rattle.lk_model.specs.declared.class.Class.{Class}
use Rattle.lk_model.specs.Formulas.Formula.{Cnf, clause_at, is_formula, positions_of}
use Rattle.lk_model.specs.Formulas.Crossed.{Variables, no_variable, formula_without}
use Rattle.lk_model.specs.Formulas.Assignment.{Assignment, touches}
use Rattle.lk_model.specs.Formulas.Autarky.{Positions, Within, IsClassAutarky}
use Rattle.lk_model.specs.Formulas.Lean.{IsLean, all_of}
use Rattle.lk_model.specs.Held.PartialValues.{assignment_by}
use Rattle.lk_model.proofs.Booleans.{and_true}
use Rattle.lk_model.proofs.Crossings.{formula_form}
use Rattle.lk_model.proofs.ListTests.{passing, passes_among}
use Rattle.lk_model.proofs.Counting.{Differ-filter, Differ-range, fewer}
use Rattle.kernel_laws.specs.KernelLaw.{HasKernel}
use Rattle.kernel_laws.proofs.Autarkies.{untouched_by, untouched_in}
use Rattle.kernel_laws.proofs.Occurrences.{in_positions}
use Rattle.kernel_laws.proofs.KernelLaws.{list_of, in_list, from_list, kernel_of}
use Rattle.kernel_laws.proofs.EmptyLaws.{empty_law}
use Rattle.document_laws.proofs.Autarkies.{autarky_law}
use Rattle.document_laws.proofs.Existence.Bounded.{values_of, values_length, autarky_by_values, touched_by_values}

-- DECIDED FACTS

-- a fact holds or is refuted
abbrev pub IsDecided : Type 0 → Type 0
IsDecided A = A ⊎ (A → ⊥)

pub decided_both : {A B : Type 0} → IsDecided A → IsDecided B → IsDecided (A × B)
decided_both (inl a) (inl b) = inl (a, b)
decided_both (inl a) (inr n) = inr (λ h. n h.1)
decided_both (inr n) b = inr (λ h. n h.0)

pub decided_by : {A : Type 0} (b : Bool) → (b ≡ true → A) → (A → b ≡ true) → IsDecided A
decided_by b to from = elim (cases_Bool b) [
  | inl y ↦ inl (to y)
  | inr n ↦ inr (λ a. both_ways b n (from a))
]

-- values of n variables with some property, or none have it
pub search_values : (n : ℕ) (D : List (Option Bool) → Type 0) → ((values : List (Option Bool)) → IsDecided (D values))
    → ((values : List (Option Bool)) × D values) ⊎ ((values : List (Option Bool)) → length values ≡ n → D values → ⊥)
search_values zero D decides = elim (decides []) [
  | inl d ↦ inl ([], d)
  | inr none ↦ inr (λ values size d. at_empty values size d none)
]
  where
    at_empty : (values : List (Option Bool)) → length values ≡ 0 → D values → (D [] → ⊥) → ⊥
    at_empty [] size d none = none d
    at_empty (v ∷ values) size d none = omega (arith, size)
search_values (suc n) D decides = elim (search_values n (λ values. D (None ∷ values)) (λ values. decides (None ∷ values))) [
  | inl w ↦ inl (None ∷ w.0, w.1)
  | inr unset ↦ elim (search_values n (λ values. D (Some true ∷ values)) (λ values. decides (Some true ∷ values))) [
    | inl w ↦ inl (Some true ∷ w.0, w.1)
    | inr positive ↦ elim (search_values n (λ values. D (Some false ∷ values)) (λ values. decides (Some false ∷ values))) [
      | inl w ↦ inl (Some false ∷ w.0, w.1)
      | inr negative ↦ inr (λ values size d. by_first values size d unset positive negative)
    ]
  ]
]
  where
    by_first : (values : List (Option Bool)) → length values ≡ suc n → D values
        → ((values : List (Option Bool)) → length values ≡ n → D (None ∷ values) → ⊥)
        → ((values : List (Option Bool)) → length values ≡ n → D (Some true ∷ values) → ⊥)
        → ((values : List (Option Bool)) → length values ≡ n → D (Some false ∷ values) → ⊥) → ⊥
    by_first [] size d a b c = omega (arith, size)
    by_first (None ∷ values) size d a b c = a values (omega (arith, size)) d
    by_first (Some true ∷ values) size d a b c = b values (omega (arith, size)) d
    by_first (Some false ∷ values) size d a b c = c values (omega (arith, size)) d

-- LEAN, OR NOT

-- it is decided of each set and of all values whether they make an autarky on it
abbrev pub DecidesAutarkies : Class → Cnf → Type 0
DecidesAutarkies class F = (S : Positions) → Within S (all_of F) → (values : List (Option Bool)) → IsDecided (IsClassAutarky class F S (assignment_by values))

-- an autarky on the set that touches a clause of it
record IsNotLean (class : Class) (F : Cnf) (S : Positions) : Type 0 where
  φ : Assignment
  autarky : IsClassAutarky class F S φ
  position : ℕ
  there : S position ≡ true
  touched : touches φ (clause_at F position) ≡ true

-- some clause of the set is touched
touches_some : Cnf → Positions → Assignment → Bool
touches_some F S φ = list_any (λ p. S p && touches φ (clause_at F p)) (positions_of F)

lean_or_not : (class : Class) (F : Cnf) (S : Positions) → is_formula F ≡ true → Within S (all_of F) → DecidesAutarkies class F
    → IsNotLean class F S ⊎ IsLean class F S
unfolding touches_some
lean_or_not class F S form within decides =
    elim (search_values F.vars (λ values. IsClassAutarky class F S (assignment_by values) × (touches_some F S (assignment_by values) ≡ true))
    (λ values. decided_both (decides S within values) (decided_by (touches_some F S (assignment_by values)) (λ e. e) (λ e. e)))) [
      | inl w ↦
          let p = passing (λ p. S p && touches (assignment_by w.0) (clause_at F p)) (positions_of F) w.1.1 in
          let both = and_true (S p.0) (touches (assignment_by w.0) (clause_at F p.0)) p.2 in
          inl (record { φ = assignment_by w.0; autarky = w.1.0; position = p.0; there = both.0; touched = both.1 })
      | inr none ↦ inr (λ φ a p there touched. none (values_of F.vars φ) (values_length F.vars φ) (
        autarky_by_values class F S φ form a,
        passes_among (λ q. S q && touches (assignment_by (values_of F.vars φ)) (clause_at F q)) (positions_of F) p (in_positions F p (within p there))
            (and_from (S p) _ there (touched_by_values F φ p form touched)),
      ))
    ]

-- TAKING AUTARKIES AWAY

-- a lean set in which all lean sets lie
record IsLargestLean (class : Class) (F : Cnf) : Type 0 where
  positions : Positions
  within : Within positions (all_of F)
  lean : IsLean class F positions
  largest : (T : Positions) → Within T (all_of F) → IsLean class F T → Within T positions

-- what an assignment does not touch is less, if it touches something
left_fewer : (class : Class) (F : Cnf) (S : Positions) → Within S (all_of F) → (w : IsNotLean class F S)
    → length (list_of F (untouched_in F S w.φ)) + 1 ≤ length (list_of F S)
unfolding untouched_in
left_fewer class F S within w =
    fewer (λ p. p) (filter (untouched_in F S w.φ) (positions_of F)) (filter S (positions_of F)) w.position (Differ-filter (untouched_in F S w.φ) (positions_of F) (Differ-range 1 (length F.clauses)))
    (record { into = λ p m. in_list F S p within (and_true (S p) (not (touches w.φ (clause_at F p))) (from_list F (untouched_in F S w.φ) p m)).0; one = λ p q m k e. e })
    (in_list F S w.position within w.there)
    (λ p m e. both_ways (touches w.φ (clause_at F p))
    (not-true (touches w.φ (clause_at F p)) (and_true (S p) (not (touches w.φ (clause_at F p))) (from_list F (untouched_in F S w.φ) p m)).1)
    (subst (λ (q : ℕ). touches w.φ (clause_at F q) ≡ true) (sym e) w.touched))

-- from a set in which all lean sets lie, until none of it is touched
largest_in : (class : Class) (F : Cnf) → is_formula F ≡ true → DecidesAutarkies class F → (n : ℕ) (S : Positions)
    → Within S (all_of F)
    → ((T : Positions) → Within T (all_of F) → IsLean class F T → Within T S) → length (list_of F S) ≤ n → IsLargestLean class F
unfolding untouched_in
largest_in class F form decides zero S within all few = elim (lean_or_not class F S form within decides) [
  | inr lean ↦ record { positions = S; within = within; lean = lean; largest = all }
  | inl w ↦ (let less = left_fewer class F S within w in absurd (omega (arith, less, few)))
]
largest_in class F form decides (suc n) S within all few = elim (lean_or_not class F S form within decides) [
  | inr lean ↦ record { positions = S; within = within; lean = lean; largest = all }
  | inl w ↦ (let less = left_fewer class F S within w in
      largest_in class F form decides n (untouched_in F S w.φ) (λ p e. within p (and_true (S p) (not (touches w.φ (clause_at F p))) e).0)
      (λ T inside lean p there. and_from (S p) (not (touches w.φ (clause_at F p))) (all T inside lean p there)
      (not_from_false (touches w.φ (clause_at F p)) (false_from_ne_true _ (λ t.
      untouched_by class F S T w.φ (all T inside lean) w.autarky lean p there t))))
      (omega (arith, less, few)))
]

-- so the formula has a kernel
plain_kernel : (class : Class) (F : Cnf) → is_formula F ≡ true → DecidesAutarkies class F → HasKernel no_variable class F
plain_kernel class F form decides =
    let l = largest_in class F form decides (length (list_of F (all_of F))) (all_of F) (λ p e. e) (λ T inside lean. inside) (omega arith) in
    kernel_of no_variable class F l.positions l.within ((empty_law.lean class F l.positions).1 l.lean)
    (λ T inside lean. l.largest T inside ((empty_law.lean class F T).0 lean))

-- and so under protected variables
pub kernel_under : (P : Variables) (class : Class) (F : Cnf) → HasKernel no_variable class (formula_without F P)
    → HasKernel P class F
kernel_under P class F h = (h.0, (autarky_law.kernel P class F h.0).1 ((empty_law.kernel class (formula_without F P) h.0).0 h.1))

pub kernel_by_search : (P : Variables) (class : Class) (F : Cnf) → is_formula F ≡ true
    → DecidesAutarkies class (formula_without F P) → HasKernel P class F
kernel_by_search P class F form decides = kernel_under P class F (plain_kernel class (formula_without F P) (formula_form P F form) decides)
