-- For each class an assignment that is an autarky of it and one that is not.
use Rattle.std.specs.Prelude.{◌≡◌, ◌↔◌, ◌==◌, ◌&&◌, ℕ, zero, suc, true, false, if◌then◌else◌, ◌<◌, ◌+◌, List, [], ◌∷◌, ℤ, pos, negsuc, ◌≤ℤ◌, ◌+ℤ◌, neg_ℤ, Some, None, IfSome, IsTrue, refl}
use Rattle.std.specs.List.{list_any}
use Rattle.std.proofs.lemmas.Int.{ints}
use Rattle.std.proofs.Common.{arith, sym, subst, ◌∙◌}
use Rattle.lk_model.specs.Lists.{is_nonzero}
use Rattle.lk_model.specs.Formulas.Literal.{complement, contains, variable}
use Rattle.lk_model.specs.Formulas.Formula.{Cnf, clause_at}
use Rattle.lk_model.specs.Formulas.Assignment.{Assignment, makes_true, touches}
use Rattle.lk_model.specs.Formulas.Balance.{Weighting, balance}
use Rattle.lk_model.specs.Formulas.Autarky.{IsAutarky, IsPureAutarky, IsMatchingAutarky, IsLinearAutarky, HasEarlier, first_sign, first_balance}
use Rattle.lk_model.specs.Formulas.Lean.{all_of}
use Rattle.lk_model.proofs.Literals.{int_self}
use Rattle.test_definitions.proofs.WorkedDocuments.{unit_twice}

-- {1,2} AND {-1,2} WITH 1 TRUE: NOT EVEN GENERAL

abbrev pub half : Cnf
half = record { vars = 2; clauses = (pos 1 ∷ pos 2 ∷ []) ∷ (negsuc 0 ∷ pos 2 ∷ []) ∷ [] }

abbrev pub one_true : Assignment
one_true zero = None
one_true (suc zero) = Some true
one_true (suc (suc v)) = None

-- the second clause is touched and not satisfied
pub not_general_of_half : IsAutarky half (all_of half) one_true → ⊥
not_general_of_half a = (let h = a 2 refl refl in let f : ⊥ = cc in f)

-- {1,-2,-3}, {-1,2,-3} AND {-1,-2,3} WITH ALL THREE TRUE: GENERAL AND MATCHING, NEITHER PURE NOR LINEAR

abbrev pub circle : Cnf
circle = record { vars = 3; clauses = (pos 1 ∷ negsuc 1 ∷ negsuc 2 ∷ []) ∷ (negsuc 0 ∷ pos 2 ∷ negsuc 2 ∷ []) ∷ (negsuc 0 ∷ negsuc 1 ∷ pos 3 ∷ []) ∷ [] }

abbrev pub all_three : Assignment
all_three zero = None
all_three (suc zero) = Some true
all_three (suc (suc zero)) = Some true
all_three (suc (suc (suc zero))) = Some true
all_three (suc (suc (suc (suc v)))) = None

pub general_of_circle : IsAutarky circle (all_of circle) all_three
general_of_circle zero s t = absurd (let f : ⊥ = cc in f)
general_of_circle (suc zero) s t = refl
general_of_circle (suc (suc zero)) s t = refl
general_of_circle (suc (suc (suc zero))) s t = refl
general_of_circle (suc (suc (suc (suc p)))) s t = absurd (let f : ⊥ = grind (arith, s) in f)

-- each clause owns the variable of its position
pub matching_of_circle : IsMatchingAutarky circle (all_of circle) all_three
matching_of_circle = record { own = λ p. p; is_true = at; differ = λ p q _ _ _ _ e. e }
  where
    at : (p : ℕ) → IsTrue (all_of circle p) → IsTrue (touches all_three (clause_at circle p))
        → IsTrue (list_any (λ l. makes_true all_three l && (variable l == p)) (clause_at circle p))
    at zero s t = absurd (let f : ⊥ = cc in f)
    at (suc zero) s t = refl
    at (suc (suc zero)) s t = refl
    at (suc (suc (suc zero))) s t = refl
    at (suc (suc (suc (suc p)))) s t = absurd (let f : ⊥ = grind (arith, s) in f)

-- of the literals that are true the complement of each is in some clause
none_is_pure : (l : ℤ) → makes_true all_three l ≡ true → ((p : ℕ) → IsTrue (all_of circle p) → IsTrue (contains (clause_at circle p) (complement l)) → false ≡ true) → ⊥
none_is_pure (pos zero) t e = cc
none_is_pure (pos (suc zero)) t e = (let h = e 2 refl refl in let f : ⊥ = cc in f)
none_is_pure (pos (suc (suc zero))) t e = (let h = e 1 refl refl in let f : ⊥ = cc in f)
none_is_pure (pos (suc (suc (suc zero)))) t e = (let h = e 1 refl refl in let f : ⊥ = cc in f)
none_is_pure (pos (suc (suc (suc (suc v))))) t e = cc
none_is_pure (negsuc zero) t e = cc
none_is_pure (negsuc (suc zero)) t e = cc
none_is_pure (negsuc (suc (suc zero))) t e = cc
none_is_pure (negsuc (suc (suc (suc k)))) t e = cc

-- so no literal can be the first of an order
pub not_pure_of_circle : IsPureAutarky circle (all_of circle) all_three → ⊥
not_pure_of_circle a = at a.order a.true_literals a.earlier
  where
    at : (order : List ℤ) → ((l : ℤ) → IsTrue (contains order l) ↔ IsTrue (makes_true all_three l))
        → HasEarlier circle (all_of circle) [] order → ⊥
    at [] each e = (let h = (each (pos 1)).1 refl in let f : ⊥ = cc in f)
    at (l ∷ order) each e = none_is_pure l ((each l).0 (rw (int_self l) refl)) e.0

-- The weights of the first weighting that is not 0 there. Two balances together are less than 0, unless it is 0 on the third
-- variable; so it is 0 on all three, and the next weighting counts.
abbrev weights : ℤ → ℤ → ℤ → Weighting
weights a b c zero = pos 0
weights a b c (suc zero) = a
weights a b c (suc (suc zero)) = b
weights a b c (suc (suc (suc v))) = c

abbrev Holds : List Weighting → ℕ → Type 0
Holds xs p = IfSome (first_balance xs (clause_at circle p)) (λ b. pos 0 ≤ℤ b)

abbrev CannotBe : List Weighting → Type 0
CannotBe xs = first_sign xs 1 ≡ Some true → first_sign xs 2 ≡ Some true → first_sign xs 3 ≡ Some true → Holds xs 1 → Holds xs 2 → Holds xs 3 → ⊥

nonzero : (a : ℕ) → is_nonzero (pos (suc a)) ≡ true
nonzero a = grind arith

-- a weighting that is not 0 on a variable of a clause counts there
counts : (x : Weighting) (xs : List Weighting) (c : List ℤ) → list_any (λ l. is_nonzero (x (variable l))) c ≡ true
    → IfSome (first_balance (x ∷ xs) c) (λ b. pos 0 ≤ℤ b) → pos 0 ≤ℤ balance x c
counts x xs c some h = subst (λ t. IfSome (if t then Some (balance x c) else first_balance xs c) (λ b. pos 0 ≤ℤ b)) some h

at_least : (a b c : ℕ) → pos 0 ≤ℤ (pos a +ℤ (neg_ℤ (pos b) +ℤ (neg_ℤ (pos c) +ℤ pos 0)))
    → pos 0 ≤ℤ (neg_ℤ (pos a) +ℤ (pos b +ℤ (neg_ℤ (pos c) +ℤ pos 0)))
    → pos 0 ≤ℤ (neg_ℤ (pos a) +ℤ (neg_ℤ (pos b) +ℤ (pos c +ℤ pos 0))) → 0 < a + b + c → ⊥
at_least a b c h i j some = omega (arith, ints, h, i, j, some)

by_weights : (xs : List Weighting) (a b c : ℤ) → CannotBe xs → CannotBe (weights a b c ∷ xs)
by_weights xs (negsuc a) b c later e f g h i j = cc
by_weights xs (pos a) (negsuc b) c later e f g h i j = cc
by_weights xs (pos a) (pos b) (negsuc c) later e f g h i j = cc
by_weights xs (pos zero) (pos zero) (pos zero) later e f g h i j = later e f g h i j
by_weights xs (pos (suc a)) (pos b) (pos c) later e f g h i j =
    let x = weights (pos (suc a)) (pos b) (pos c) in
    at_least (suc a) b c (counts x xs (clause_at circle 1) (rw (nonzero a) refl) h) (counts x xs (clause_at circle 2) (rw (nonzero a) refl) i)
    (counts x xs (clause_at circle 3) (rw (nonzero a) refl) j) (omega arith)
by_weights xs (pos zero) (pos (suc b)) (pos c) later e f g h i j =
    let x = weights (pos 0) (pos (suc b)) (pos c) in
    at_least 0 (suc b) c (counts x xs (clause_at circle 1) (rw (nonzero b) refl) h) (counts x xs (clause_at circle 2) (rw (nonzero b) refl) i)
    (counts x xs (clause_at circle 3) (rw (nonzero b) refl) j) (omega arith)
by_weights xs (pos zero) (pos zero) (pos (suc c)) later e f g h i j =
    let x = weights (pos 0) (pos 0) (pos (suc c)) in
    at_least 0 0 (suc c) (counts x xs (clause_at circle 1) (rw (nonzero c) refl) h) (counts x xs (clause_at circle 2) (rw (nonzero c) refl) i)
    (counts x xs (clause_at circle 3) (rw (nonzero c) refl) j) (omega arith)

none_fits : (xs : List Weighting) → CannotBe xs
none_fits [] e f g h i j = cc
none_fits (x ∷ xs) e f g h i j = by_weights xs (x 1) (x 2) (x 3) (none_fits xs) e f g h i j

pub not_linear_of_circle : IsLinearAutarky circle (all_of circle) all_three → ⊥
not_linear_of_circle a = none_fits a.weightings (sym (a.signs 1)) (sym (a.signs 2)) (sym (a.signs 3)) (a.balances 1 refl) (a.balances 2 refl) (a.balances 3 refl)

-- {1} AND {1} WITH 1 TRUE: PURE AND LINEAR, BUT NOT MATCHING, SINCE A CLAUSE THAT STANDS TWICE IS TWO CLAUSES

pub pure_of_twice : IsPureAutarky unit_twice (all_of unit_twice) one_true
pure_of_twice = record { order = pos 1 ∷ []; once = refl; true_literals = same; earlier = (at, tt) }
  where
    same : (l : ℤ) → IsTrue (contains (pos 1 ∷ []) l) ↔ IsTrue (makes_true one_true l)
    same (pos zero) = (λ h. h, λ h. h)
    same (pos (suc zero)) = (λ h. h, λ h. h)
    same (pos (suc (suc v))) = (λ h. absurd (let f : ⊥ = grind (arith, h) in f), λ h. absurd (let f : ⊥ = cc in f))
    same (negsuc zero) = (λ h. h, λ h. h)
    same (negsuc (suc k)) = (λ h. h, λ h. h)

    at : (p : ℕ) → IsTrue (all_of unit_twice p) → IsTrue (contains (clause_at unit_twice p) (negsuc 0)) → false ≡ true
    at zero s c = absurd (let f : ⊥ = cc in f)
    at (suc zero) s c = absurd (let f : ⊥ = cc in f)
    at (suc (suc zero)) s c = absurd (let f : ⊥ = cc in f)
    at (suc (suc (suc p))) s c = absurd (let f : ⊥ = grind (arith, s) in f)

abbrev pub one_on_first : Weighting
one_on_first zero = pos 0
one_on_first (suc zero) = pos 1
one_on_first (suc (suc v)) = pos 0

sign_of_first : (v : ℕ) → one_true v ≡ first_sign (one_on_first ∷ []) v
sign_of_first zero = refl
sign_of_first (suc zero) = refl
sign_of_first (suc (suc v)) = refl

pub linear_of_twice : IsLinearAutarky unit_twice (all_of unit_twice) one_true
linear_of_twice = record { weightings = one_on_first ∷ []; signs = sign_of_first; balances = at }
  where
    at : (p : ℕ) → IsTrue (all_of unit_twice p) → IfSome (first_balance (one_on_first ∷ []) (clause_at unit_twice p)) (λ b. pos 0 ≤ℤ b)
    at zero s = absurd (let f : ⊥ = cc in f)
    at (suc zero) s = omega arith
    at (suc (suc zero)) s = omega arith
    at (suc (suc (suc p))) s = absurd (let f : ⊥ = grind (arith, s) in f)

abbrev one : ℕ
one = 1

abbrev two : ℕ
two = 2

pub not_matching_of_twice : IsMatchingAutarky unit_twice (all_of unit_twice) one_true → ⊥
not_matching_of_twice a = clash (a.own 1) (a.own 2) (a.is_true 1 refl refl) (a.is_true 2 refl refl) (a.differ 1 2 refl refl refl refl)
  where
    clash : (v w : ℕ) → IsTrue (list_any (λ l. makes_true one_true l && (variable l == v)) (pos 1 ∷ []))
        → IsTrue (list_any (λ l. makes_true one_true l && (variable l == w)) (pos 1 ∷ [])) → (v ≡ w → one ≡ two) → ⊥
    clash zero w h i e = cc
    clash (suc zero) zero h i e = cc
    clash (suc zero) (suc zero) h i e = (let f = e refl in let g : ⊥ = omega (arith, f) in g)
    clash (suc zero) (suc (suc w)) h i e = absurd (let f : ⊥ = grind (arith, i) in f)
    clash (suc (suc v)) w h i e = absurd (let f : ⊥ = grind (arith, h) in f)

-- {1} ALONE WITH 1 TRUE: MATCHING TOO

abbrev pub unit_once : Cnf
unit_once = record { vars = 1; clauses = (pos 1 ∷ []) ∷ [] }

pub matching_of_once : IsMatchingAutarky unit_once (all_of unit_once) one_true
matching_of_once = record { own = λ _. 1; is_true = at; differ = λ p q s u _ _ _. only p s ∙ sym (only q u) }
  where
    only : (p : ℕ) → IsTrue (all_of unit_once p) → p ≡ 1
    only zero s = absurd (let f : ⊥ = cc in f)
    only (suc zero) s = refl
    only (suc (suc p)) s = absurd (let f : ⊥ = grind (arith, s) in f)

    at : (p : ℕ) → IsTrue (all_of unit_once p) → IsTrue (touches one_true (clause_at unit_once p))
        → IsTrue (list_any (λ l. makes_true one_true l && (variable l == 1)) (clause_at unit_once p))
    at zero s t = absurd (let f : ⊥ = cc in f)
    at (suc zero) s t = refl
    at (suc (suc p)) s t = absurd (let f : ⊥ = grind (arith, s) in f)

-- {1,-1} WITH 1 TRUE: MATCHING, LINEAR AND GENERAL, BUT NOT PURE

abbrev pub tautology : Cnf
tautology = record { vars = 1; clauses = (pos 1 ∷ negsuc 0 ∷ []) ∷ [] }

pub general_of_tautology : IsAutarky tautology (all_of tautology) one_true
general_of_tautology zero s t = absurd (let f : ⊥ = cc in f)
general_of_tautology (suc zero) s t = refl
general_of_tautology (suc (suc p)) s t = absurd (let f : ⊥ = grind (arith, s) in f)

pub matching_of_tautology : IsMatchingAutarky tautology (all_of tautology) one_true
matching_of_tautology = record { own = λ _. 1; is_true = at; differ = λ p q s u _ _ _. only p s ∙ sym (only q u) }
  where
    only : (p : ℕ) → IsTrue (all_of tautology p) → p ≡ 1
    only zero s = absurd (let f : ⊥ = cc in f)
    only (suc zero) s = refl
    only (suc (suc p)) s = absurd (let f : ⊥ = grind (arith, s) in f)

    at : (p : ℕ) → IsTrue (all_of tautology p) → IsTrue (touches one_true (clause_at tautology p))
        → IsTrue (list_any (λ l. makes_true one_true l && (variable l == 1)) (clause_at tautology p))
    at zero s t = absurd (let f : ⊥ = cc in f)
    at (suc zero) s t = refl
    at (suc (suc p)) s t = absurd (let f : ⊥ = grind (arith, s) in f)

-- the balance is 1 - 1
pub linear_of_tautology : IsLinearAutarky tautology (all_of tautology) one_true
linear_of_tautology = record { weightings = one_on_first ∷ []; signs = sign_of_first; balances = at }
  where
    at : (p : ℕ) → IsTrue (all_of tautology p) → IfSome (first_balance (one_on_first ∷ []) (clause_at tautology p)) (λ b. pos 0 ≤ℤ b)
    at zero s = absurd (let f : ⊥ = cc in f)
    at (suc zero) s = omega arith
    at (suc (suc p)) s = absurd (let f : ⊥ = grind (arith, s) in f)

-- the clause contains the complement of 1, and no literal is earlier
pub not_pure_of_tautology : IsPureAutarky tautology (all_of tautology) one_true → ⊥
not_pure_of_tautology a = at a.order a.true_literals a.earlier
  where
    at : (order : List ℤ) → ((l : ℤ) → IsTrue (contains order l) ↔ IsTrue (makes_true one_true l))
        → HasEarlier tautology (all_of tautology) [] order → ⊥
    at [] each e = (let h = (each (pos 1)).1 refl in let f : ⊥ = cc in f)
    at (pos zero ∷ order) each e = (let h = (each (pos zero)).0 refl in let f : ⊥ = cc in f)
    at (pos (suc zero) ∷ order) each e = (let h = e.0 1 refl refl in let f : ⊥ = cc in f)
    at (pos (suc (suc v)) ∷ order) each e = (let h = (each (pos (suc (suc v)))).0 (rw (int_self (pos (suc (suc v)))) refl) in let f : ⊥ = cc in f)
    at (negsuc zero ∷ order) each e = (let h = (each (negsuc zero)).0 refl in let f : ⊥ = cc in f)
    at (negsuc (suc k) ∷ order) each e = (let h = (each (negsuc (suc k))).0 (rw (int_self (negsuc (suc k))) refl) in let f : ⊥ = cc in f)
