-- Clauses that an assignment satisfies where it touches them.
use Rattle.std.proofs.Common.{◌≡◌, ◌≢◌, ℕ, Bool, true, false, List, ◌++◌, refl, subst, ℤ, pos, is_some, ◌⊎◌, inl, inr}
use Rattle.std.specs.Ordering.{int_eq}
use Rattle.std.proofs.lemmas.Bool.{both_ways, cases_Bool}
use Rattle.lk_model.specs.Formulas.Literal.{complement, contains, is_same_set}
use Rattle.lk_model.specs.Chains.Chain.{without}
use Rattle.lk_model.specs.Formulas.Assignment.{Assignment, makes_true, touches, satisfies}
use Rattle.lk_model.proofs.Literals.{same_int, variable_complement, in_left}
use Rattle.kernel_laws.proofs.Clauses.{in_without, in_right, of_resolvent, of_same, same_of}
use Rattle.kernel_laws.proofs.Assignments.{set_where_true, not_both_true, touched_at, touching, satisfied_at, satisfying}

-- the clause is satisfied where it is touched
abbrev pub IsFair : Assignment → List ℤ → Type 0
IsFair φ c = touches φ c ≡ true → satisfies φ c ≡ true

-- so it is not touched where it is not satisfied
pub unsatisfied_untouched : (φ : Assignment) (c : List ℤ) → IsFair φ c → satisfies φ c ≡ false → touches φ c ≡ false
unsatisfied_untouched φ c fair n = elim (cases_Bool (touches φ c)) [
  | inl t ↦ absurd (both_ways (satisfies φ c) n (fair t))
  | inr u ↦ u
]

-- clauses with the same literals are fair together
pub fair_same : (φ : Assignment) (c d : List ℤ) → is_same_set c d ≡ true → IsFair φ d → IsFair φ c
fair_same φ c d same fair t =
    let w = touching φ c t in
    let x = satisfying φ d (fair (touched_at φ d w.0 (of_same c d w.0 same w.1) w.2)) in
    satisfied_at φ c x.0 (same_of c d x.0 same x.1) x.2

-- and clauses with the same literals are unsatisfied together
pub unsatisfied_same : (φ : Assignment) (c d : List ℤ) → is_same_set c d ≡ true → satisfies φ c ≡ false → satisfies φ d ≡ false
unsatisfied_same φ c d same n = elim (cases_Bool (satisfies φ d)) [
  | inl s ↦ (let x = satisfying φ d s in absurd (both_ways (satisfies φ c) n (satisfied_at φ c x.0 (same_of c d x.0 same x.1) x.2)))
  | inr m ↦ m
]

-- what a resolution makes of two fair clauses: a satisfied one, or both are untouched
pub data Resolves (φ : Assignment) (c d r : List ℤ) : Type 0 where
  satisfied : satisfies φ r ≡ true → Resolves φ c d r
  untouched : touches φ c ≡ false → touches φ d ≡ false → Resolves φ c d r

-- a true literal of the first clause stays, or it is the one resolved on; so of the second
stays_left : (φ : Assignment) (c d : List ℤ) (t u : ℤ) → satisfies φ c ≡ true → (satisfies φ (without c t ++ without d u) ≡ true) ⊎ (makes_true φ t ≡ true)
stays_left φ c d t u s =
    let w = satisfying φ c s in
    elim (cases_Bool (int_eq w.0 t)) [
      | inl same ↦ inr (subst (λ (l : ℤ). makes_true φ l ≡ true) (same_int w.0 t same) w.2)
      | inr other ↦ inl (satisfied_at φ (without c t ++ without d u) w.0 (in_left (without c t) (without d u) w.0 (in_without c t w.0 w.1 other)) w.2)
    ]

-- and so for the second clause
stays_right : (φ : Assignment) (c d : List ℤ) (t u : ℤ) → satisfies φ d ≡ true → (satisfies φ (without c t ++ without d u) ≡ true) ⊎ (makes_true φ u ≡ true)
stays_right φ c d t u s =
    let w = satisfying φ d s in
    elim (cases_Bool (int_eq w.0 u)) [
      | inl same ↦ inr (subst (λ (l : ℤ). makes_true φ l ≡ true) (same_int w.0 u same) w.2)
      | inr other ↦ inl (satisfied_at φ (without c t ++ without d u) w.0 (in_right (without c t) (without d u) w.0 (in_without d u w.0 w.1 other)) w.2)
    ]

-- where the literal resolved on is true, the second clause is touched; where its complement is, the first is
touched_right : (φ : Assignment) (d : List ℤ) (t : ℤ) → contains d (complement t) ≡ true → makes_true φ t ≡ true → touches φ d ≡ true
touched_right φ d t m e = touched_at φ d (complement t) m (rw (variable_complement t) (set_where_true φ t e))

-- and the first one for the complement
touched_left : (φ : Assignment) (c : List ℤ) (t : ℤ) → contains c t ≡ true → makes_true φ (complement t) ≡ true → touches φ c ≡ true
touched_left φ c t m e = touched_at φ c t m (subst (λ (v : ℕ). is_some (φ v) ≡ true) (variable_complement t) (set_where_true φ (complement t) e))

-- resolving two fair clauses gives no other case
pub resolves : (φ : Assignment) (t : ℤ) (c d : List ℤ) → t ≢ pos 0 → contains c t ≡ true → contains d (complement t) ≡ true
    → IsFair φ c → IsFair φ d → Resolves φ c d (without c t ++ without d (complement t))
resolves φ t c d real held against f g = at_tests (touches φ c) refl (touches φ d) refl
  where
    right : satisfies φ d ≡ true → (makes_true φ (complement t) ≡ true → Resolves φ c d (without c t ++ without d (complement t)))
        → Resolves φ c d (without c t ++ without d (complement t))
    right s other = elim (stays_right φ c d t (complement t) s) [ inl r ↦ satisfied r | inr e ↦ other e ]

    at_tests : (x : Bool) → touches φ c ≡ x → (y : Bool) → touches φ d ≡ y → Resolves φ c d (without c t ++ without d (complement t))
    at_tests false a false b = untouched a b
    at_tests false a true b = right (g b) (λ e. absurd (both_ways (touches φ c) a (touched_left φ c t held e)))
    at_tests true a y b = elim (stays_left φ c d t (complement t) (f a)) [
      | inl r ↦ satisfied r
      | inr e ↦ right (g (touched_right φ d t against e)) (λ x. absurd (not_both_true φ t real e x))
    ]

-- a resolvent of untouched clauses is untouched
pub untouched_resolvent : (φ : Assignment) (c d : List ℤ) (t u : ℤ) → touches φ c ≡ false → touches φ d ≡ false → touches φ (without c t ++ without d u) ≡ false
untouched_resolvent φ c d t u a b = elim (cases_Bool (touches φ (without c t ++ without d u))) [
  | inl s ↦ (let w = touching φ (without c t ++ without d u) s in elim (of_resolvent c d t u w.0 w.1) [
    | inl m ↦ absurd (both_ways (touches φ c) a (touched_at φ c w.0 m w.2))
    | inr m ↦ absurd (both_ways (touches φ d) b (touched_at φ d w.0 m w.2))
  ])
  | inr n ↦ n
]
