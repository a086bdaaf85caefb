-- Signs and first balances of a list of weightings; a linear autarky satisfies what it touches.
use Rattle.std.proofs.Common.{◌≡◌, ◌≢◌, ℕ, zero, suc, ◌∙◌, Bool, true, false, cond, not, ◌||◌, List, [], ◌∷◌, ◌++◌, refl, sym, ap, subst, arith, inl, inr, Option, Some, is_some, unwrap_or, ℤ, pos, negsuc, neg_ℤ, ◌+ℤ◌, ◌<ℤ◌, ◌≤ℤ◌, int_lt}
use Rattle.std.specs.Prelude.{IfSome}
use Rattle.std.specs.List.{list_any}
use Rattle.std.specs.Option.{option_or}
use Rattle.std.proofs.lemmas.Int.{ints}
use Rattle.std.proofs.lemmas.Bool.{both_ways, cases_Bool}
use Rattle.lk_model.specs.Lists.{is_nonzero}
use Rattle.lk_model.specs.Formulas.Literal.{variable}
use Rattle.lk_model.specs.Formulas.Formula.{Cnf, clause_at}
use Rattle.lk_model.specs.Formulas.Assignment.{Assignment, makes_true, touches, satisfies}
use Rattle.lk_model.specs.Formulas.Balance.{Weighting, balance}
use Rattle.lk_model.specs.Formulas.Autarky.{Positions, IsLinearAutarky, IsAutarky, first_sign, first_balance}
use Rattle.lk_model.proofs.Booleans.{or_true, or_false, or_left}
use Rattle.lk_model.proofs.Variables.{any_mono}
use Rattle.lk_model.proofs.ListTests.{zero_is}
use Rattle.kernel_laws.proofs.Tests.{any_same, any_or}

-- a test that nothing passes
any_none : (c : List ℤ) → list_any (λ l. false) c ≡ false
any_none [] = refl
any_none (l ∷ c) = any_none c

-- WEIGHTS

-- the weight of a literal: of its variable, with its sign
abbrev pub weight_of : Weighting → ℤ → ℤ
weight_of x (pos v) = x v
weight_of x (negsuc k) = neg_ℤ (x (suc k))

-- the balance of a clause with one more literal
pub balance_more : (x : Weighting) (l : ℤ) (c : List ℤ) → balance x (l ∷ c) ≡ weight_of x l +ℤ balance x c
balance_more x (pos v) c = refl
balance_more x (negsuc k) c = refl

-- SIGNS

-- a variable has a sign where one of the weightings is not 0 on it
sign_more : (x : Weighting) (xs : List Weighting) (v : ℕ) → is_some (first_sign (x ∷ xs) v) ≡ (is_nonzero (x v) || is_some (first_sign xs v))
sign_more x xs v = by_number (x v) (is_some (first_sign xs v)) (first_sign xs v) refl
  where
    by_number : (z : ℤ) (b : Bool) (o : Option Bool) → is_some o ≡ b
        → is_some (let s : Option Bool = (elim z [ pos zero ↦ o | pos (suc _) ↦ Some true | negsuc _ ↦ Some false ]) in s) ≡ (is_nonzero z || b)
    by_number (pos zero) b o e = e
    by_number (pos (suc n)) b o e = sym (or_left (is_nonzero (pos (suc n))) b (not_zero n))
      where
        not_zero : (n : ℕ) → is_nonzero (pos (suc n)) ≡ true
        not_zero n = elim (cases_Bool (is_nonzero (pos (suc n)))) [
          | inl y ↦ y
          | inr z ↦ absurd (let f = zero_is (pos (suc n)) z in omega (arith, ints, f))
        ]
    by_number (negsuc n) b o e = refl

-- a choice of a value and another option
some_more : (b : Bool) (y : ℤ) (o : Option ℤ) → is_some (let s : Option ℤ = cond b (Some y) o in s) ≡ (b || is_some o)
some_more true y o = refl
some_more false y o = refl

-- a clause has a first balance where one of its variables has a sign
pub signed_clause : (ws : List Weighting) (c : List ℤ) → list_any (λ l. is_some (first_sign ws (variable l))) c ≡ is_some (first_balance ws c)
signed_clause [] c = any_none c
signed_clause (x ∷ xs) c =
    any_same (λ l. is_some (first_sign (x ∷ xs) (variable l))) (λ l. is_nonzero (x (variable l)) || is_some (first_sign xs (variable l))) c (λ l. sign_more x xs (variable l))
    ∙ any_or (λ l. is_nonzero (x (variable l))) (λ l. is_some (first_sign xs (variable l))) c
    ∙ ap (λ b. list_any (λ l. is_nonzero (x (variable l))) c || b) (signed_clause xs c)
    ∙ sym (some_more (list_any (λ l. is_nonzero (x (variable l))) c) (balance x c) (first_balance xs c))

-- the first balance of more weightings
pub balance_append : (ws us : List Weighting) (c : List ℤ) → first_balance (ws ++ us) c ≡ option_or (first_balance ws c) (first_balance us c)
balance_append [] us c = refl
balance_append (x ∷ ws) us c = elim (cases_Bool (list_any (λ l. is_nonzero (x (variable l))) c)) [
  | inl y ↦ rw y refl
  | inr n ↦ rw n (balance_append ws us c)
]

-- SATISFIED CLAUSES

-- a literal whose weight is above 0
abbrev is_up : Weighting → ℤ → Bool
is_up x l = int_lt (pos 0) (weight_of x l)

-- where no literal of a clause is up its balance is not above 0, and below 0 where one has a weight
balance_most : (x : Weighting) (c : List ℤ) → list_any (is_up x) c ≡ false → balance x c ≤ℤ pos 0
balance_most x [] e = omega (arith, ints)
balance_most x (l ∷ c) e =
    let both = or_false (is_up x l) (list_any (is_up x) c) e in
    subst (λ z. z ≤ℤ pos 0) (sym (balance_more x l c)) (plus (weight_of x l) (balance x c) both.0 (balance_most x c both.1))
  where
    plus : (a b : ℤ) → int_lt (pos 0) a ≡ false → b ≤ℤ pos 0 → (a +ℤ b) ≤ℤ pos 0
    plus a b e h = let f : a ≤ℤ pos 0 = grind (arith, ints) in omega (arith, ints, f, h)

-- a literal weighs nothing only where its variable does
weight_zero : (x : Weighting) (l : ℤ) → weight_of x l ≡ pos 0 → x (variable l) ≡ pos 0
weight_zero x (pos v) e = e
weight_zero x (negsuc k) e = back (x (suc k)) e
  where
    back : (z : ℤ) → neg_ℤ z ≡ pos 0 → z ≡ pos 0
    back z e = omega (arith, ints, e)

-- and below 0 there
balance_below : (x : Weighting) (c : List ℤ) → list_any (is_up x) c ≡ false → list_any (λ l. is_nonzero (x (variable l))) c ≡ true → balance x c <ℤ pos 0
balance_below x [] e some = absurd (let f : ⊥ = cc in f)
balance_below x (l ∷ c) e some =
    let both = or_false (is_up x l) (list_any (is_up x) c) e in
    subst (λ z. z <ℤ pos 0) (sym (balance_more x l c)) (elim (or_true (is_nonzero (x (variable l))) (list_any (λ l. is_nonzero (x (variable l))) c) some) [
      | inl here ↦ first (weight_of x l) (balance x c) both.0 (λ z. both_ways (is_nonzero (x (variable l))) (ap is_nonzero (weight_zero x l z)) here) (balance_most x c both.1)
      | inr later ↦ second (weight_of x l) (balance x c) both.0 (balance_below x c both.1 later)
    ])
  where
    first : (a b : ℤ) → int_lt (pos 0) a ≡ false → a ≢ pos 0 → b ≤ℤ pos 0 → (a +ℤ b) <ℤ pos 0
    first (pos zero) b e n h = absurd (n refl)
    first (pos (suc a)) b e n h = absurd (let f : pos (suc a) ≤ℤ pos 0 = grind (arith, ints) in omega (arith, ints, f))
    first (negsuc a) b e n h = omega (arith, ints, h)

    second : (a b : ℤ) → int_lt (pos 0) a ≡ false → b <ℤ pos 0 → (a +ℤ b) <ℤ pos 0
    second a b e h = let f : a ≤ℤ pos 0 = grind (arith, ints) in omega (arith, ints, f, h)

-- a literal that is up is true
up_true : (x : Weighting) (xs : List Weighting) (l : ℤ) → is_up x l ≡ true → makes_true (first_sign (x ∷ xs)) l ≡ true
up_true x xs (pos v) e = by_number (x v) e
  where
    by_number : (z : ℤ) → int_lt (pos 0) z ≡ true
        → unwrap_or (let s : Option Bool = (elim z [ pos zero ↦ first_sign xs v | pos (suc _) ↦ Some true | negsuc _ ↦ Some false ]) in s) false ≡ true
    by_number (pos zero) e = absurd (let f : pos 0 <ℤ pos 0 = grind (arith, ints) in omega (arith, ints, f))
    by_number (pos (suc n)) e = refl
    by_number (negsuc n) e = absurd (let f : pos 0 <ℤ negsuc n = grind (arith, ints) in omega (arith, ints, f))
up_true x xs (negsuc k) e = by_number (x (suc k)) e
  where
    by_number : (z : ℤ) → int_lt (pos 0) (neg_ℤ z) ≡ true
        → not (unwrap_or (let s : Option Bool = (elim z [ pos zero ↦ first_sign xs (suc k) | pos (suc _) ↦ Some true | negsuc _ ↦ Some false ]) in s) true) ≡ true
    by_number (pos zero) e = absurd (let f : pos 0 <ℤ pos 0 = grind (arith, ints) in omega (arith, ints, f))
    by_number (pos (suc n)) e = absurd (let f : pos 0 <ℤ negsuc n = grind (arith, ints) in omega (arith, ints, f))
    by_number (negsuc n) e = refl

-- a variable without a weight has the sign of the later weightings
sign_later : (x : Weighting) (xs : List Weighting) (v : ℕ) → x v ≡ pos 0 → first_sign (x ∷ xs) v ≡ first_sign xs v
sign_later x xs v e = rw e refl

-- so has a literal of it
true_later : (x : Weighting) (xs : List Weighting) (l : ℤ) → x (variable l) ≡ pos 0 → makes_true (first_sign (x ∷ xs)) l ≡ makes_true (first_sign xs) l
true_later x xs (pos v) e = ap (λ (o : Option Bool). unwrap_or o false) (sign_later x xs v e)
true_later x xs (negsuc k) e = ap (λ (o : Option Bool). not (unwrap_or o true)) (sign_later x xs (suc k) e)

-- and a clause of such literals
true_without : (x : Weighting) (xs : List Weighting) (c : List ℤ) → list_any (λ l. is_nonzero (x (variable l))) c ≡ false
    → list_any (makes_true (first_sign (x ∷ xs))) c ≡ list_any (makes_true (first_sign xs)) c
true_without x xs [] e = refl
true_without x xs (l ∷ c) e =
    let both = or_false (is_nonzero (x (variable l))) (list_any (λ l. is_nonzero (x (variable l))) c) e in
    ap (λ b. b || list_any (makes_true (first_sign (x ∷ xs))) c) (true_later x xs l (zero_is (x (variable l)) both.0))
    ∙ ap (λ b. makes_true (first_sign xs) l || b) (true_without x xs c both.1)

-- a clause whose first balance is not below 0 contains a literal that the signs make true
pub satisfied_clause : (ws : List Weighting) (c : List ℤ) → is_some (first_balance ws c) ≡ true → IfSome (first_balance ws c) (λ b. pos 0 ≤ℤ b)
    → list_any (makes_true (first_sign ws)) c ≡ true
satisfied_clause [] c some least = absurd (let f : ⊥ = cc in f)
satisfied_clause (x ∷ xs) c some least = by_test (list_any (λ l. is_nonzero (x (variable l))) c) refl some least (satisfied_clause xs c)
  where
    least_only : balance x c <ℤ pos 0 → pos 0 ≤ℤ balance x c → ⊥
    least_only h k = no (balance x c) h k
      where
        no : (z : ℤ) → z <ℤ pos 0 → pos 0 ≤ℤ z → ⊥
        no z h k = omega (arith, ints, h, k)

    by_test : (b : Bool) → list_any (λ l. is_nonzero (x (variable l))) c ≡ b → is_some (let o : Option ℤ = cond b (Some (balance x c)) (first_balance xs c) in o) ≡ true
        → IfSome (cond b (Some (balance x c)) (first_balance xs c)) (λ b. pos 0 ≤ℤ b)
        → (is_some (first_balance xs c) ≡ true → IfSome (first_balance xs c) (λ b. pos 0 ≤ℤ b) → list_any (makes_true (first_sign xs)) c ≡ true)
        → list_any (makes_true (first_sign (x ∷ xs))) c ≡ true
    by_test true e some least rest = elim (cases_Bool (list_any (is_up x) c)) [
      | inl up ↦ any_mono (is_up x) (makes_true (first_sign (x ∷ xs))) c (up_true x xs) up
      | inr down ↦ absurd (least_only (balance_below x c down e) least)
    ]
    by_test false e some least rest = true_without x xs c e ∙ rest some least

-- A LINEAR AUTARKY IS AN AUTARKY
pub linear_is_autarky : (F : Cnf) (S : Positions) (φ : Assignment) → IsLinearAutarky F S φ → IsAutarky F S φ
linear_is_autarky F S φ a p s t =
    let same : φ ≡ first_sign a.weightings = λ i v. a.signs v i in
    let some : is_some (first_balance a.weightings (clause_at F p)) ≡ true = sym (signed_clause a.weightings (clause_at F p)) ∙ sym (ap (λ (ψ : Assignment). touches ψ (clause_at F p)) same) ∙ t in
    ap (λ (ψ : Assignment). satisfies ψ (clause_at F p)) same ∙ satisfied_clause a.weightings (clause_at F p) some (a.balances p s)
