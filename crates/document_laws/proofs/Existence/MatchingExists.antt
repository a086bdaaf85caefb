-- A formula has a matching kernel.
use Rattle.std.proofs.Common.{◌≡◌, ℕ, zero, suc, ◌≤◌, ◌+◌, Bool, true, not, ◌&&◌, cond, ◌==◌, nat_le, List, [], ◌∷◌, map, length, get_or, refl, sym, ◌∙◌, ap, subst, arith, ◌⊎◌, inl, inr}
use Rattle.std.specs.Prelude.{slice_index_or}
use Rattle.std.specs.List.{list_any, list_all}
use Rattle.std.proofs.lemmas.Bool.{cases_Bool, cases_lt, both_ways, and_from, not_from_false, not-true, false_from_ne_true, le-leb, leb-true, eqb-true, eq-eqb}
use Rattle.std.proofs.lemmas.List.{get_or-map, length-map}
use Rattle.std.proofs.lemmas.List.FromFn.{length-range_with_len, get_or-range_with_len}
use Rattle.lk_model.specs.declared.class.Class.TheVariants as class
use Rattle.lk_model.specs.Formulas.Literal.{variable, mentions}
use Rattle.lk_model.specs.Formulas.Formula.{Cnf, clause_at, is_formula, positions_of}
use Rattle.lk_model.specs.Formulas.Crossed.{Variables, formula_without}
use Rattle.lk_model.specs.Formulas.Assignment.{Assignment, makes_true, touches}
use Rattle.lk_model.specs.Formulas.Autarky.{Positions, Within, IsMatchingAutarky}
use Rattle.lk_model.specs.Formulas.Lean.{all_of}
use Rattle.lk_model.specs.Held.PartialValues.{assignment_by}
use Rattle.lk_model.proofs.Booleans.{and_true}
use Rattle.lk_model.proofs.Crossings.{formula_form}
use Rattle.lk_model.proofs.ListTests.{passing, passes_among}
use Rattle.lk_model.proofs.Variables.{any_mono, variable_bound}
use Rattle.kernel_laws.specs.KernelLaw.{HasKernel}
use Rattle.kernel_laws.proofs.Occurrences.{in_positions}
use Rattle.document_laws.proofs.Existence.Searching.{IsDecided, decided_both, decided_by, kernel_by_search}

-- LISTS OF NUMBERS

-- a number up to a last one with the one property, or all have the other
first_with : (A B : ℕ → Type 0) → ((v : ℕ) → A v ⊎ B v) → (last : ℕ) → ((v : ℕ) × A v) ⊎ ((v : ℕ) → v ≤ last → B v)
first_with A B each zero = elim (each 0) [
  | inl a ↦ inl (0, a)
  | inr b ↦ inr (λ v le. let same : 0 ≡ v = omega (arith, le) in subst B same b)
]
first_with A B each (suc last) = elim (each (suc last)) [
  | inl a ↦ inl (suc last, a)
  | inr b ↦ elim (first_with A B each last) [
    | inl w ↦ inl w
    | inr before ↦ inr (λ v le. elim (cases_lt v (suc last)) [
      | inl less ↦ before v (omega (arith, less))
      | inr more ↦ (let same : suc last ≡ v = omega (arith, le, more) in subst B same b)
    ])
  ]
]

-- m numbers up to n with some property, or none have it
search_numbers : (m n : ℕ) (D : List ℕ → Type 0) → ((vs : List ℕ) → IsDecided (D vs))
    → ((vs : List ℕ) × D vs) ⊎ ((vs : List ℕ) → length vs ≡ m → list_all (λ v. nat_le v n) vs ≡ true → D vs → ⊥)
search_numbers zero n D decides = elim (decides []) [
  | inl d ↦ inl ([], d)
  | inr none ↦ inr (λ vs size few d. at_empty vs size d none)
]
  where
    at_empty : (vs : List ℕ) → length vs ≡ 0 → D vs → (D [] → ⊥) → ⊥
    at_empty [] size d none = none d
    at_empty (v ∷ vs) size d none = omega (arith, size)
search_numbers (suc m) n D decides =
    elim (first_with (λ v. (vs : List ℕ) × D (v ∷ vs)) (λ v. (vs : List ℕ) → length vs ≡ m → list_all (λ v. nat_le v n) vs ≡ true → D (v ∷ vs) → ⊥)
    (λ v. search_numbers m n (λ vs. D (v ∷ vs)) (λ vs. decides (v ∷ vs))) n) [
      | inl w ↦ inl (w.0 ∷ w.1.0, w.1.1)
      | inr none ↦ inr (λ vs size few d. by_first vs size few d none)
    ]
  where
    by_first : (vs : List ℕ) → length vs ≡ suc m → list_all (λ v. nat_le v n) vs ≡ true → D vs
        → ((v : ℕ) → v ≤ n → (vs : List ℕ) → length vs ≡ m → list_all (λ v. nat_le v n) vs ≡ true → D (v ∷ vs) → ⊥) → ⊥
    by_first [] size few d none = omega (arith, size)
    by_first (v ∷ vs) size few d none =
        let both = and_true (nat_le v n) (list_all (λ v. nat_le v n) vs) few in
        none v (leb-true v n both.0) vs (omega (arith, size)) both.1 d

-- OWN VARIABLES

-- the variables of the positions 1, 2, ..
own_by : List ℕ → ℕ → ℕ
own_by vs zero = 0
own_by vs (suc k) = slice_index_or vs k 0

-- the clause has a true literal on its own variable
has_own : Cnf → Assignment → (ℕ → ℕ) → ℕ → Bool
has_own F φ own p = list_any (λ l. makes_true φ l && (variable l == own p)) (clause_at F p)

-- each clause of the set that is touched has
AreTrue : Cnf → Positions → Assignment → (ℕ → ℕ) → Type 0
AreTrue F S φ own = (p : ℕ) → S p ≡ true → touches φ (clause_at F p) ≡ true → has_own F φ own p ≡ true

-- and no two have one variable
DoDiffer : Cnf → Positions → Assignment → (ℕ → ℕ) → Type 0
DoDiffer F S φ own = (p q : ℕ) → S p ≡ true → S q ≡ true → touches φ (clause_at F p) ≡ true → touches φ (clause_at F q) ≡ true → own p ≡ own q → p ≡ q

-- both are decided
fails_true : Cnf → Positions → Assignment → (ℕ → ℕ) → ℕ → Bool
fails_true F S φ own p = S p && (touches φ (clause_at F p) && not (has_own F φ own p))

true_decided : (F : Cnf) (S : Positions) → Within S (all_of F) → (φ : Assignment) (own : ℕ → ℕ) → IsDecided (AreTrue F S φ own)
unfolding AreTrue fails_true
true_decided F S within φ own = decided_by (not (list_any (fails_true F S φ own) (positions_of F)))
    (λ e p there touched. elim (cases_Bool (has_own F φ own p)) [
      | inl s ↦ s
      | inr n ↦ absurd (both_ways (list_any (fails_true F S φ own) (positions_of F)) (not-true (list_any (fails_true F S φ own) (positions_of F)) e)
          (passes_among (fails_true F S φ own) (positions_of F) p (in_positions F p (within p there))
          (and_from (S p) _ there (and_from (touches φ (clause_at F p)) _ touched (not_from_false (has_own F φ own p) n)))))
    ])
    (λ a. not_from_false (list_any (fails_true F S φ own) (positions_of F)) (false_from_ne_true _ (λ e.
    let w = passing (fails_true F S φ own) (positions_of F) e in
    let both = and_true (S w.0) (touches φ (clause_at F w.0) && not (has_own F φ own w.0)) w.2 in
    let more = and_true (touches φ (clause_at F w.0)) (not (has_own F φ own w.0)) both.1 in
    both_ways (has_own F φ own w.0) (not-true (has_own F φ own w.0) more.1) (a w.0 both.0 more.0))))

clash : Cnf → Positions → Assignment → (ℕ → ℕ) → ℕ → ℕ → Bool
clash F S φ own p q = (S p && touches φ (clause_at F p)) && ((S q && touches φ (clause_at F q)) && ((own p == own q) && not (p == q)))

differ_decided : (F : Cnf) (S : Positions) → Within S (all_of F) → (φ : Assignment) (own : ℕ → ℕ) → IsDecided (DoDiffer F S φ own)
unfolding DoDiffer clash
differ_decided F S within φ own = decided_by (not (list_any some (positions_of F)))
    (λ e p q there other touched too same. elim (cases_Bool (p == q)) [
      | inl y ↦ eqb-true p q y
      | inr n ↦ absurd (both_ways (list_any some (positions_of F)) (not-true (list_any some (positions_of F)) e)
          (passes_among some (positions_of F) p (in_positions F p (within p there))
          (passes_among (clash F S φ own p) (positions_of F) q (in_positions F q (within q other))
          (and_from _ _ (and_from (S p) _ there touched) (and_from _ _ (and_from (S q) _ other too) (and_from _ _ (eq-eqb (own p) (own q) same) (not_from_false (p == q) n)))))))
    ])
    (λ a. not_from_false (list_any some (positions_of F)) (false_from_ne_true _ (λ e.
    let w = passing some (positions_of F) e in
    let x = passing (clash F S φ own w.0) (positions_of F) w.2 in
    let first = and_true (S w.0 && touches φ (clause_at F w.0)) _ x.2 in
    let second = and_true (S x.0 && touches φ (clause_at F x.0)) ((own w.0 == own x.0) && not (w.0 == x.0)) first.1 in
    let third = and_true (own w.0 == own x.0) (not (w.0 == x.0)) second.1 in
    let p = and_true (S w.0) (touches φ (clause_at F w.0)) first.0 in
    let q = and_true (S x.0) (touches φ (clause_at F x.0)) second.0 in
    both_ways (w.0 == x.0) (not-true (w.0 == x.0) third.1)
    (eq-eqb w.0 x.0 (a w.0 x.0 p.0 q.0 p.1 q.1 (eqb-true (own w.0) (own x.0) third.0))))))
  where
    some : ℕ → Bool
    some p = list_any (clash F S φ own p) (positions_of F)

-- OF AN AUTARKY

-- its own variables at the positions that are touched, and 0 elsewhere
owned : (F : Cnf) (S : Positions) (φ : Assignment) → (ℕ → ℕ) → ℕ → ℕ
owned F S φ own p = cond (S p && touches φ (clause_at F p)) (own p) 0

own_list : (F : Cnf) (S : Positions) (φ : Assignment) → (ℕ → ℕ) → List ℕ
own_list F S φ own = map (owned F S φ own) (positions_of F)

own_size : (F : Cnf) (S : Positions) (φ : Assignment) (own : ℕ → ℕ) → length (own_list F S φ own) ≡ length F.clauses
unfolding own_list
own_size F S φ own = length-map (positions_of F) (owned F S φ own) ∙ length-range_with_len 1 (length F.clauses)

own_at : (F : Cnf) (S : Positions) (φ : Assignment) (own : ℕ → ℕ) (p : ℕ) → Within S (all_of F) → S p ≡ true
    → touches φ (clause_at F p) ≡ true
    → own_by (own_list F S φ own) p ≡ own p
unfolding own_by own_list owned
own_at F S φ own zero within there touched = absurd (let f : ⊥ = cc in f)
own_at F S φ own (suc k) within there touched =
    let most = leb-true (suc k) (length F.clauses) (and_true (nat_le 1 (suc k)) (nat_le (suc k) (length F.clauses)) (within (suc k) there)).1 in
    let size : length (positions_of F) ≡ length F.clauses = length-range_with_len 1 (length F.clauses) in
    let at : get_or (positions_of F) k 0 ≡ suc k = get_or-range_with_len 1 (length F.clauses) k 0 (omega (arith, most)) ∙ (let next : 1 + k ≡ suc k = omega arith in next) in
    get_or-map (owned F S φ own) (positions_of F) k 0 0 (omega (arith, most, size))
    ∙ ap (owned F S φ own) at
    ∙ ap (λ (b : Bool). cond b (own (suc k)) 0) (and_from (S (suc k)) _ there touched)

own_small : (F : Cnf) (S : Positions) (φ : Assignment) (own : ℕ → ℕ) → is_formula F ≡ true → AreTrue F S φ own → (ps : List ℕ)
    → list_all (λ v. nat_le v F.vars) (map (owned F S φ own) ps) ≡ true
unfolding owned AreTrue has_own
own_small F S φ own form trues [] = refl
own_small F S φ own form trues (p ∷ ps) = and_from _ _ (elim (cases_Bool (S p && touches φ (clause_at F p))) [
  | inl wanted ↦
      let both = and_true (S p) (touches φ (clause_at F p)) wanted in
      let on : mentions (clause_at F p) (own p) ≡ true =
      any_mono (λ l. makes_true φ l && (variable l == own p)) (λ l. variable l == own p) (clause_at F p) (λ l e. (and_true (makes_true φ l) (variable l == own p) e).1) (trues p both.0 both.1) in
      le-leb (cond (S p && touches φ (clause_at F p)) (own p) 0) F.vars
      (subst (λ (b : Bool). cond b (own p) 0 ≤ F.vars) (sym wanted) (variable_bound F p (own p) form on).1)
  | inr unwanted ↦
      le-leb (cond (S p && touches φ (clause_at F p)) (own p) 0) F.vars (subst (λ (b : Bool). cond b (own p) 0 ≤ F.vars) (sym unwanted) (let z : 0 ≤ F.vars = omega arith in z))
]) (own_small F S φ own form trues ps)

-- so it is decided whether there is one
matching_decided : (F : Cnf) (S : Positions) → is_formula F ≡ true → Within S (all_of F) → (φ : Assignment)
    → IsDecided (IsMatchingAutarky F S φ)
unfolding AreTrue DoDiffer has_own own_list
matching_decided F S form within φ =
    elim (search_numbers (length F.clauses) F.vars (λ vs. AreTrue F S φ (own_by vs) × DoDiffer F S φ (own_by vs))
    (λ vs. decided_both (true_decided F S within φ (own_by vs)) (differ_decided F S within φ (own_by vs)))) [
      | inl w ↦ inl (record { own = own_by w.0; is_true = w.1.0; differ = w.1.1 })
      | inr none ↦ inr (λ a. by_list a none)
    ]
  where
    by_list : IsMatchingAutarky F S φ
        → ((vs : List ℕ) → length vs ≡ length F.clauses → list_all (λ v. nat_le v F.vars) vs ≡ true → AreTrue F S φ (own_by vs) × DoDiffer F S φ (own_by vs) → ⊥) → ⊥
    by_list a none =
        let vs = own_list F S φ a.own in
        none vs (own_size F S φ a.own) (own_small F S φ a.own form a.is_true (positions_of F)) (
          λ p there touched.
              subst (λ (v : ℕ). list_any (λ l. makes_true φ l && (variable l == v)) (clause_at F p) ≡ true) (sym (own_at F S φ a.own p within there touched)) (a.is_true p there touched),
          λ p q there other touched too same.
              a.differ p q there other touched too (sym (own_at F S φ a.own p within there touched) ∙ same ∙ own_at F S φ a.own q within other too),
        )

pub matching_exists : (P : Variables) (F : Cnf) → is_formula F ≡ true → HasKernel P class.Matching F
matching_exists P F form =
    kernel_by_search P class.Matching F form (λ S within values. matching_decided (formula_without F P) S (formula_form P F form) within (assignment_by values))
