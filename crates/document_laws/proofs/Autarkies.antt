-- Autarkies of the classes under P and on the formula without P.
use Rattle.std.proofs.Common.{◌≡◌, ℕ, zero, suc, Bool, true, false, not, ◌&&◌, ◌==◌, cond, List, [], ◌∷◌, map, refl, sym, ◌∙◌, ap, subst, inl, inr, ℤ, pos, negsuc, Option, Some, None, is_some, unwrap_or, arith}
use Rattle.std.specs.Prelude.{◌≤ℤ◌, IfSome, ◌+ℤ◌, neg_ℤ}
use Rattle.std.specs.List.{list_any, list_all}
use Rattle.std.proofs.lemmas.Bool.{cases_Bool, both_ways, and_from}
use Rattle.std.proofs.Math.Bool.{and_self_left}
use Rattle.lk_model.specs.declared.class.Class.{Class}
use Rattle.lk_model.specs.declared.class.Class.TheVariants.{Pure, Matching, Linear, General}
use Rattle.lk_model.specs.Lists.{among, is_between, is_nonzero, rises_within}
use Rattle.lk_model.specs.Formulas.Literal.{variable, complement, contains}
use Rattle.lk_model.specs.Formulas.Formula.{Cnf, clause_at}
use Rattle.lk_model.specs.Formulas.Crossed.{Variables, crossed_out, formula_without}
use Rattle.lk_model.specs.Formulas.Balance.{Weighting, balance}
use Rattle.lk_model.specs.Formulas.Assignment.{Assignment, makes_true, touches, satisfies}
use Rattle.lk_model.specs.Formulas.Autarky.{Positions, Within, HasEarlier, first_sign, first_balance, IsClassAutarky}
use Rattle.lk_model.specs.Formulas.Lean.{IsLean, Kernel, all_of}
use Rattle.lk_model.specs.Formulas.Protected.{SetsNone, IsLeanUnder, KernelUnder}
use Rattle.lk_model.proofs.Booleans.{and_true}
use Rattle.lk_model.proofs.Founds.{all_literals}
use Rattle.lk_model.proofs.Crossings.{contains_crossed, distinct_crossed}
use Rattle.lk_model.proofs.Literals.{variable_complement}
use Rattle.kernel_laws.proofs.Assignments.{set_where_true}
use Rattle.kernel_laws.proofs.Crossing.{same_count, clause_without, any_crossed, any_kept}
use Rattle.kernel_laws.proofs.Tests.{any_same}
use Rattle.document_laws.specs.CarryLaw.{restricted, AutarkyLaw}

-- WHAT AN ASSIGNMENT SEES

-- a literal on a variable of P is not set where none of P is
pub unset_literal : (P : Variables) (φ : Assignment) → SetsNone P φ → (l : ℤ) → P (variable l) ≡ true → is_some (φ (variable l)) ≡ false
unset_literal P φ none l y = none (variable l) y

-- and not true
pub untrue_literal : (P : Variables) (φ : Assignment) → SetsNone P φ → (l : ℤ) → P (variable l) ≡ true → makes_true φ l ≡ false
untrue_literal P φ none l y = elim (cases_Bool (makes_true φ l)) [
  | inl t ↦ absurd (both_ways (is_some (φ (variable l))) (none (variable l) y) (set_where_true φ l t))
  | inr f ↦ f
]

-- so a literal that is set is outside P
pub set_outside : (P : Variables) (φ : Assignment) → SetsNone P φ → (l : ℤ) → is_some (φ (variable l)) ≡ true → P (variable l) ≡ false
set_outside P φ none l s = elim (cases_Bool (P (variable l))) [
  | inl y ↦ absurd (both_ways (is_some (φ (variable l))) (none (variable l) y) s)
  | inr n ↦ n
]

-- the crossed clause is touched where the clause is
pub touches_crossed : (P : Variables) (φ : Assignment) → SetsNone P φ → (c : List ℤ) → touches φ (crossed_out P c) ≡ touches φ c
touches_crossed P φ none c = any_kept (λ l. is_some (φ (variable l))) P c (unset_literal P φ none)

-- and satisfied where it is
pub satisfies_crossed : (P : Variables) (φ : Assignment) → SetsNone P φ → (c : List ℤ) → satisfies φ (crossed_out P c) ≡ satisfies φ c
satisfies_crossed P φ none c = any_kept (makes_true φ) P c (untrue_literal P φ none)

-- and a variable is its own where it is
pub owns_crossed : (P : Variables) (φ : Assignment) → SetsNone P φ → (c : List ℤ) (v : ℕ)
    → list_any (λ l. makes_true φ l && (variable l == v)) (crossed_out P c) ≡ list_any (λ l. makes_true φ l && (variable l == v)) c
owns_crossed P φ none c v =
    any_kept (λ l. makes_true φ l && (variable l == v)) P c (λ l y. ap (λ (b : Bool). b && (variable l == v)) (untrue_literal P φ none l y))

-- a literal outside P is held where it is
pub held_crossed : (P : Variables) (c : List ℤ) (l : ℤ) → P (variable l) ≡ false → contains (crossed_out P c) l ≡ contains c l
held_crossed P c l n = contains_crossed P c l ∙ ap (λ (b : Bool). not b && contains c l) n

-- WEIGHTINGS

-- the weighting that is 0 on P
abbrev pub masked : Variables → Weighting → Weighting
masked P x v = cond (P v) (pos 0) (x v)

-- 0 and a number
zero_add : (y : ℤ) → pos 0 +ℤ y ≡ y
zero_add y = grind arith

-- the balance of the crossed clause is that of the clause where P weighs 0
balance_crossed : (P : Variables) (x : Weighting) (c : List ℤ) → balance x (crossed_out P c) ≡ balance (masked P x) c
balance_crossed P x [] = refl
balance_crossed P x (pos v ∷ c) = elim (cases_Bool (P v)) [
  | inl y ↦ rw y (balance_crossed P x c ∙ sym (zero_add (balance (masked P x) c)))
  | inr n ↦ rw n (ap (λ z. x v +ℤ z) (balance_crossed P x c))
]
balance_crossed P x (negsuc k ∷ c) = elim (cases_Bool (P (suc k))) [
  | inl y ↦ rw y (balance_crossed P x c ∙ sym (zero_add (balance (masked P x) c)))
  | inr n ↦ rw n (ap (λ z. neg_ℤ (x (suc k)) +ℤ z) (balance_crossed P x c))
]

-- a weight of a literal outside P is not 0 where the masked one is not
weighs_masked : (P : Variables) (x : Weighting) (v : ℕ) → (not (P v) && is_nonzero (x v)) ≡ is_nonzero (masked P x v)
weighs_masked P x v = at_test (P v)
  where
    at_test : (b : Bool) → (not b && is_nonzero (x v)) ≡ is_nonzero (cond b (pos 0) (x v))
    at_test true = refl
    at_test false = refl

-- so the first balance of the crossed clause is that of the clause by the masked weightings
pub first_balance_crossed : (P : Variables) (xs : List Weighting) (c : List ℤ) → first_balance xs (crossed_out P c) ≡ first_balance (map (masked P) xs) c
first_balance_crossed P [] c = refl
first_balance_crossed P (x ∷ xs) c =
    rw (
      any_crossed (λ l. is_nonzero (x (variable l))) P c,
      any_same (λ l. not (P (variable l)) && is_nonzero (x (variable l))) (λ l. is_nonzero (masked P x (variable l))) c (λ l. weighs_masked P x (variable l)),
      balance_crossed P x c,
      first_balance_crossed P xs c,
    ) refl

-- the sign of a weight, else that of the later ones
abbrev pub sign_before : ℤ → Option Bool → Option Bool
sign_before x rest = elim x [ pos zero ↦ rest | pos (suc _) ↦ Some true | negsuc _ ↦ Some false ]

-- masked weightings give no sign on P and the same signs elsewhere
masked_sign : (P : Variables) (xs : List Weighting) (v : ℕ) → first_sign (map (masked P) xs) v ≡ cond (P v) None (first_sign xs v)
masked_sign P xs v = elim (cases_Bool (P v)) [
  | inl y ↦ rw y (inside xs y)
  | inr n ↦ rw n (outside xs n)
]
  where
    inside : (xs : List Weighting) → P v ≡ true → first_sign (map (masked P) xs) v ≡ None
    inside [] y = refl
    inside (x ∷ xs) y = ap (λ z. sign_before z (first_sign (map (masked P) xs) v)) (weight x y) ∙ inside xs y
      where
        weight : (x : Weighting) → P v ≡ true → masked P x v ≡ pos 0
        weight x y = rw y refl

    outside : (xs : List Weighting) → P v ≡ false → first_sign (map (masked P) xs) v ≡ first_sign xs v
    outside [] n = refl
    outside (x ∷ xs) n = ap (λ z. sign_before z (first_sign (map (masked P) xs) v)) (weight x n) ∙ ap (sign_before (x v)) (outside xs n)
      where
        weight : (x : Weighting) → P v ≡ false → masked P x v ≡ x v
        weight x n = rw n refl

-- where no weighting gives a sign on P, they are masked already
no_sign : (x : ℤ) (rest : Option Bool) → sign_before x rest ≡ None → (x ≡ pos 0) × (rest ≡ None)
no_sign (pos zero) rest e = (refl, e)
no_sign (pos (suc k)) rest e = absurd (let f : ⊥ = cc in f)
no_sign (negsuc k) rest e = absurd (let f : ⊥ = cc in f)

pub all_masked : (P : Variables) (xs : List Weighting) → ((v : ℕ) → P v ≡ true → first_sign xs v ≡ None) → map (masked P) xs ≡ xs
all_masked P [] h = refl
all_masked P (x ∷ xs) h =
    let head : masked P x ≡ x = λ i v. at_variable v i in
    let rest = all_masked P xs (λ v y. (no_sign (x v) (first_sign xs v) (h v y)).1) in
    λ i. head i ∷ rest i
  where
    at_variable : (v : ℕ) → cond (P v) (pos 0) (x v) ≡ x v
    at_variable v = elim (cases_Bool (P v)) [
      | inl y ↦ rw y (sym (no_sign (x v) (first_sign xs v) (h v y)).0)
      | inr n ↦ rw n refl
    ]

-- masked twice is masked
masked_twice : (P : Variables) (xs : List Weighting) → map (masked P) (map (masked P) xs) ≡ map (masked P) xs
masked_twice P xs = all_masked P (map (masked P) xs) (λ v y. masked_sign P xs v ∙ ap (λ (b : Bool). cond b (let o : Option Bool = None in o) (first_sign xs v)) y)

-- no value is none
none_is : {X : Type 0} (o : Option X) → is_some o ≡ false → o ≡ None
none_is None e = refl
none_is (Some x) e = absurd (let f : ⊥ = cc in f)

-- weightings of which an assignment has the signs that sets none of P
pub balance_without : (P : Variables) (φ : Assignment) (xs : List Weighting) → SetsNone P φ → ((v : ℕ) → φ v ≡ first_sign xs v) → (c : List ℤ)
    → first_balance xs (crossed_out P c) ≡ first_balance xs c
balance_without P φ xs none signs c =
    first_balance_crossed P xs c ∙ ap (λ (ys : List Weighting). first_balance ys c) (all_masked P xs (λ v y. sym (signs v) ∙ none_is (φ v) (none v y)))

-- CARRIED BETWEEN FORMULAS

-- two formulas in which an assignment sees the same
record AreAlike (φ : Assignment) (F G : Cnf) : Type 0 where
  touched : (p : ℕ) → touches φ (clause_at F p) ≡ touches φ (clause_at G p)
  satisfied : (p : ℕ) → satisfies φ (clause_at F p) ≡ satisfies φ (clause_at G p)
  owned : (p v : ℕ) → list_any (λ l. makes_true φ l && (variable l == v)) (clause_at F p) ≡ list_any (λ l. makes_true φ l && (variable l == v)) (clause_at G p)
  held : (p : ℕ) (l : ℤ) → is_some (φ (variable l)) ≡ true → contains (clause_at F p) l ≡ contains (clause_at G p) l
  balanced : (xs : List Weighting) → ((v : ℕ) → φ v ≡ first_sign xs v) → (p : ℕ) → first_balance xs (clause_at F p) ≡ first_balance xs (clause_at G p)

-- the other way round
alike_back : (φ : Assignment) (F G : Cnf) → AreAlike φ F G → AreAlike φ G F
alike_back φ F G a = record {
  touched = λ p. sym (a.touched p);
  satisfied = λ p. sym (a.satisfied p);
  owned = λ p v. sym (a.owned p v);
  held = λ p l s. sym (a.held p l s);
  balanced = λ xs signs p. sym (a.balanced xs signs p);
}

-- all these literals are set
abbrev are_set : Assignment → List ℤ → Bool
are_set φ ls = list_all (λ l. is_some (φ (variable l))) ls

-- a clause contains one of some literals that are set where its like does
any_held : (φ : Assignment) (F G : Cnf) (p : ℕ) → AreAlike φ F G → (ls : List ℤ) → are_set φ ls ≡ true → list_any (contains (clause_at F p)) ls ≡ list_any (contains (clause_at G p)) ls
any_held φ F G p a [] s = refl
any_held φ F G p a (l ∷ ls) s =
    let both = and_true (is_some (φ (variable l))) (are_set φ ls) s in
    rw (a.held p l both.0, any_held φ F G p a ls both.1) refl

-- an order of literals that are set is one for both
earlier_carried : (φ : Assignment) (F G : Cnf) (S : Positions) → AreAlike φ F G → (earlier order : List ℤ) → are_set φ earlier ≡ true → are_set φ order ≡ true
    → HasEarlier F S earlier order → HasEarlier G S earlier order
earlier_carried φ F G S a earlier [] e s h = tt
earlier_carried φ F G S a earlier (l ∷ order) e s h =
    let both = and_true (is_some (φ (variable l))) (are_set φ order) s in
    let other : is_some (φ (variable (complement l))) ≡ true = ap (λ v. is_some (φ v)) (variable_complement l) ∙ both.0 in (
      λ p t k. sym (any_held φ F G p a earlier e) ∙ h.0 p t (a.held p (complement l) other ∙ k),
      earlier_carried φ F G S a (l ∷ earlier) order (and_from (is_some (φ (variable l))) (are_set φ earlier) both.0 e) both.1 h.1,
    )

-- an autarky of a class on the one formula is one on the other
carried : (class : Class) (φ : Assignment) (F G : Cnf) (S : Positions) → AreAlike φ F G → IsClassAutarky class F S φ → IsClassAutarky class G S φ
carried Pure φ F G S a h = record {
  order = h.order;
  once = h.once;
  true_literals = h.true_literals;
  earlier = earlier_carried φ F G S a [] h.order refl
      (all_literals (λ l. is_some (φ (variable l))) h.order (λ l c. set_where_true φ l ((h.true_literals l).0 c))) h.earlier;
}
carried Matching φ F G S a h = record {
  own = h.own;
  is_true = λ p s t. sym (a.owned p (h.own p)) ∙ h.is_true p s (a.touched p ∙ t);
  differ = λ p q s t u w. h.differ p q s t (a.touched p ∙ u) (a.touched q ∙ w);
}
carried Linear φ F G S a h = record {
  weightings = h.weightings;
  signs = h.signs;
  balances = λ p s. subst (λ (o : Option ℤ). IfSome o (λ b. pos 0 ≤ℤ b)) (a.balanced h.weightings h.signs p) (h.balances p s);
}
carried General φ F G S a h = λ p s t. sym (a.satisfied p) ∙ h p s (a.touched p ∙ t)

-- an assignment that sets none of P sees the same without P
alike_without : (P : Variables) (F : Cnf) (φ : Assignment) → SetsNone P φ → AreAlike φ (formula_without F P) F
alike_without P F φ none = record {
  touched = λ p. ap (touches φ) (clause_without F P p) ∙ touches_crossed P φ none (clause_at F p);
  satisfied = λ p. ap (satisfies φ) (clause_without F P p) ∙ satisfies_crossed P φ none (clause_at F p);
  owned = λ p v. ap (λ (c : List ℤ). list_any (λ l. makes_true φ l && (variable l == v)) c) (clause_without F P p) ∙ owns_crossed P φ none (clause_at F p) v;
  held = λ p l s. ap (λ (c : List ℤ). contains c l) (clause_without F P p) ∙ held_crossed P (clause_at F p) l (set_outside P φ none l s);
  balanced = λ xs signs p. ap (first_balance xs) (clause_without F P p) ∙ balance_without P φ xs none signs (clause_at F p);
}

-- the positions touched are the same
pub touched_without : (P : Variables) (F : Cnf) (φ : Assignment) (p : ℕ) → SetsNone P φ → touches φ (clause_at (formula_without F P) p) ≡ touches φ (clause_at F p)
touched_without P F φ p none = (alike_without P F φ none).touched p

-- and those satisfied
pub satisfied_without : (P : Variables) (F : Cnf) (φ : Assignment) (p : ℕ) → SetsNone P φ → satisfies φ (clause_at (formula_without F P) p) ≡ satisfies φ (clause_at F p)
satisfied_without P F φ p none = (alike_without P F φ none).satisfied p

-- an autarky under P is one without P
pub to_without : (P : Variables) (class : Class) (F : Cnf) (S : Positions) (φ : Assignment) → SetsNone P φ → IsClassAutarky class F S φ → IsClassAutarky class (formula_without F P) S φ
to_without P class F S φ none = carried class φ F (formula_without F P) S (alike_back φ (formula_without F P) F (alike_without P F φ none))

-- and the other way round
pub from_without : (P : Variables) (class : Class) (F : Cnf) (S : Positions) (φ : Assignment) → SetsNone P φ → IsClassAutarky class (formula_without F P) S φ → IsClassAutarky class F S φ
from_without P class F S φ none = carried class φ (formula_without F P) F S (alike_without P F φ none)

-- RESTRICTED

-- the restricted assignment sets none of P
pub restricted_unset : (P : Variables) (φ : Assignment) → SetsNone P (restricted P φ)
restricted_unset P φ v y = rw y refl

-- and the same variables outside P
set_restricted : (P : Variables) (φ : Assignment) (l : ℤ) → (not (P (variable l)) && is_some (restricted P φ (variable l))) ≡ (not (P (variable l)) && is_some (φ (variable l)))
set_restricted P φ l = at_test (P (variable l)) (φ (variable l))
  where
    at_test : (b : Bool) (o : Option Bool) → (not b && is_some (cond b None o)) ≡ (not b && is_some o)
    at_test true o = refl
    at_test false o = refl

-- its true literals are those outside P
true_restricted : (P : Variables) (φ : Assignment) (l : ℤ) → makes_true (restricted P φ) l ≡ (not (P (variable l)) && makes_true φ l)
true_restricted P φ (pos v) = at_test (P v) (φ v)
  where
    at_test : (b : Bool) (o : Option Bool) → unwrap_or (cond b None o) false ≡ (not b && unwrap_or o false)
    at_test true o = refl
    at_test false o = refl
true_restricted P φ (negsuc k) = at_test (P (suc k)) (φ (suc k))
  where
    at_test : (b : Bool) (o : Option Bool) → not (unwrap_or (cond b None o) true) ≡ (not b && not (unwrap_or o true))
    at_test true o = refl
    at_test false o = refl

-- so it touches the same crossed clauses
touches_restricted : (P : Variables) (φ : Assignment) (c : List ℤ) → touches (restricted P φ) (crossed_out P c) ≡ touches φ (crossed_out P c)
touches_restricted P φ c =
    any_crossed (λ l. is_some (restricted P φ (variable l))) P c
    ∙ any_same (λ l. not (P (variable l)) && is_some (restricted P φ (variable l))) (λ l. not (P (variable l)) && is_some (φ (variable l))) c (set_restricted P φ)
    ∙ sym (any_crossed (λ l. is_some (φ (variable l))) P c)

-- and a test of true literals passes on the same
any_restricted : (P : Variables) (φ : Assignment) (t : ℤ → Bool) (c : List ℤ)
    → list_any (λ l. makes_true (restricted P φ) l && t l) (crossed_out P c) ≡ list_any (λ l. makes_true φ l && t l) (crossed_out P c)
any_restricted P φ t c =
    any_crossed (λ l. makes_true (restricted P φ) l && t l) P c
    ∙ any_same (λ l. not (P (variable l)) && (makes_true (restricted P φ) l && t l)) (λ l. not (P (variable l)) && (makes_true φ l && t l)) c (λ l. at_literal l)
    ∙ sym (any_crossed (λ l. makes_true φ l && t l) P c)
  where
    at_tests : (b m s : Bool) → (not b && ((not b && m) && s)) ≡ (not b && (m && s))
    at_tests true m s = refl
    at_tests false m s = refl

    at_literal : (l : ℤ) → (not (P (variable l)) && (makes_true (restricted P φ) l && t l)) ≡ (not (P (variable l)) && (makes_true φ l && t l))
    at_literal l = ap (λ (b : Bool). not (P (variable l)) && (b && t l)) (true_restricted P φ l) ∙ at_tests (P (variable l)) (makes_true φ l) (t l)

-- and satisfies the same ones
satisfies_restricted : (P : Variables) (φ : Assignment) (c : List ℤ) → satisfies (restricted P φ) (crossed_out P c) ≡ satisfies φ (crossed_out P c)
satisfies_restricted P φ c =
    any_crossed (makes_true (restricted P φ)) P c
    ∙ any_same (λ l. not (P (variable l)) && makes_true (restricted P φ) l) (λ l. not (P (variable l)) && makes_true φ l) c (λ l. at_literal l)
    ∙ sym (any_crossed (makes_true φ) P c)
  where
    at_literal : (l : ℤ) → (not (P (variable l)) && makes_true (restricted P φ) l) ≡ (not (P (variable l)) && makes_true φ l)
    at_literal l = ap (λ (b : Bool). not (P (variable l)) && b) (true_restricted P φ l) ∙ and_self_left (not (P (variable l))) (makes_true φ l)

-- a crossed clause contains one of some literals where it contains one of those outside P
any_outside : (P : Variables) (c ls : List ℤ) → list_any (contains (crossed_out P c)) (crossed_out P ls) ≡ list_any (contains (crossed_out P c)) ls
any_outside P c ls = any_kept (contains (crossed_out P c)) P ls (λ l y. contains_crossed P c l ∙ ap (λ (b : Bool). not b && contains c l) y)

-- the order without the literals on P is one for the crossed clauses
earlier_restricted : (P : Variables) (F : Cnf) (S : Positions) (earlier order : List ℤ) → HasEarlier (formula_without F P) S earlier order
    → HasEarlier (formula_without F P) S (crossed_out P earlier) (crossed_out P order)
earlier_restricted P F S earlier [] h = tt
earlier_restricted P F S earlier (l ∷ order) h =
    let rest = earlier_restricted P F S (l ∷ earlier) order h.1 in
    elim (cases_Bool (P (variable l))) [
      | inl y ↦ inside y rest
      | inr n ↦ outside n rest
    ]
  where
    held : (p : ℕ) → list_any (contains (clause_at (formula_without F P) p)) (crossed_out P earlier) ≡ list_any (contains (clause_at (formula_without F P) p)) earlier
    held p = subst (λ (c : List ℤ). list_any (contains c) (crossed_out P earlier) ≡ list_any (contains c) earlier) (sym (clause_without F P p)) (any_outside P (clause_at F p) earlier)

    inside : P (variable l) ≡ true → HasEarlier (formula_without F P) S (crossed_out P (l ∷ earlier)) (crossed_out P order)
        → HasEarlier (formula_without F P) S (crossed_out P earlier) (crossed_out P (l ∷ order))
    inside y rest =
        let less : crossed_out P (l ∷ earlier) ≡ crossed_out P earlier = rw y refl in
        let same : crossed_out P (l ∷ order) ≡ crossed_out P order = rw y refl in
        subst (λ (o : List ℤ). HasEarlier (formula_without F P) S (crossed_out P earlier) o) (sym same)
        (subst (λ (e : List ℤ). HasEarlier (formula_without F P) S e (crossed_out P order)) less rest)

    outside : P (variable l) ≡ false → HasEarlier (formula_without F P) S (crossed_out P (l ∷ earlier)) (crossed_out P order)
        → HasEarlier (formula_without F P) S (crossed_out P earlier) (crossed_out P (l ∷ order))
    outside n rest =
        let more : crossed_out P (l ∷ earlier) ≡ l ∷ crossed_out P earlier = rw n refl in
        let same : crossed_out P (l ∷ order) ≡ l ∷ crossed_out P order = rw n refl in
        subst (λ (o : List ℤ). HasEarlier (formula_without F P) S (crossed_out P earlier) o) (sym same) (
          λ p s c. held p ∙ h.0 p s c,
          subst (λ (e : List ℤ). HasEarlier (formula_without F P) S e (crossed_out P order)) more rest,
        )

-- the restricted assignment touches the same positions of the formula without P
pub still_touched : (P : Variables) (F : Cnf) (φ : Assignment) (p : ℕ) → touches (restricted P φ) (clause_at (formula_without F P) p) ≡ touches φ (clause_at (formula_without F P) p)
still_touched P F φ p = subst (λ (c : List ℤ). touches (restricted P φ) c ≡ touches φ c) (sym (clause_without F P p)) (touches_restricted P φ (clause_at F p))

-- restricted, an autarky of a class on the formula without P is one still
pub restricts : (P : Variables) (class : Class) (F : Cnf) (S : Positions) (φ : Assignment) → IsClassAutarky class (formula_without F P) S φ
    → IsClassAutarky class (formula_without F P) S (restricted P φ)
restricts P Pure F S φ h = record {
  order = crossed_out P h.order;
  once = distinct_crossed P h.order h.once;
  true_literals = λ l. (
    λ c. let both = and_true (not (P (variable l))) (contains h.order l) (sym (contains_crossed P h.order l) ∙ c) in
        true_restricted P φ l ∙ and_from (not (P (variable l))) (makes_true φ l) both.0 ((h.true_literals l).0 both.1),
    λ t. let both = and_true (not (P (variable l))) (makes_true φ l) (sym (true_restricted P φ l) ∙ t) in
        contains_crossed P h.order l ∙ and_from (not (P (variable l))) (contains h.order l) both.0 ((h.true_literals l).1 both.1),
  );
  earlier = earlier_restricted P F S [] h.order h.earlier;
}
restricts P Matching F S φ h = record {
  own = h.own;
  is_true = λ p s t. owned p ∙ h.is_true p s (sym (still_touched P F φ p) ∙ t);
  differ = λ p q s t u w. h.differ p q s t (sym (still_touched P F φ p) ∙ u) (sym (still_touched P F φ q) ∙ w);
}
  where
    owned : (p : ℕ) → list_any (λ l. makes_true (restricted P φ) l && (variable l == h.own p)) (clause_at (formula_without F P) p)
        ≡ list_any (λ l. makes_true φ l && (variable l == h.own p)) (clause_at (formula_without F P) p)
    owned p = subst (λ (c : List ℤ). list_any (λ l. makes_true (restricted P φ) l && (variable l == h.own p)) c ≡ list_any (λ l. makes_true φ l && (variable l == h.own p)) c)
        (sym (clause_without F P p)) (any_restricted P φ (λ l. variable l == h.own p) (clause_at F p))
restricts P Linear F S φ h = record {
  weightings = map (masked P) h.weightings;
  signs = λ v. ap (λ (o : Option Bool). cond (P v) None o) (h.signs v) ∙ sym (masked_sign P h.weightings v);
  balances = λ p s. subst (λ (o : Option ℤ). IfSome o (λ b. pos 0 ≤ℤ b)) (sym (balanced p)) (h.balances p s);
}
  where
    balanced : (p : ℕ) → first_balance (map (masked P) h.weightings) (clause_at (formula_without F P) p) ≡ first_balance h.weightings (clause_at (formula_without F P) p)
    balanced p = subst (λ (c : List ℤ). first_balance (map (masked P) h.weightings) c ≡ first_balance h.weightings c) (sym (clause_without F P p))
        (first_balance_crossed P (map (masked P) h.weightings) (clause_at F p)
        ∙ ap (λ (ys : List Weighting). first_balance ys (clause_at F p)) (masked_twice P h.weightings)
        ∙ sym (first_balance_crossed P h.weightings (clause_at F p)))
restricts P General F S φ h = λ p s t. satisfied p ∙ h p s (sym (still_touched P F φ p) ∙ t)
  where
    satisfied : (p : ℕ) → satisfies (restricted P φ) (clause_at (formula_without F P) p) ≡ satisfies φ (clause_at (formula_without F P) p)
    satisfied p = subst (λ (c : List ℤ). satisfies (restricted P φ) c ≡ satisfies φ c) (sym (clause_without F P p)) (satisfies_restricted P φ (clause_at F p))

-- LEAN SETS AND KERNELS

-- what is lean under P is lean without P
pub lean_to : (P : Variables) (class : Class) (F : Cnf) (S : Positions) → IsLeanUnder P class F S → IsLean class (formula_without F P) S
lean_to P class F S lean φ a p s t =
    let none = restricted_unset P φ in
    lean (restricted P φ) (none, from_without P class F S (restricted P φ) none (restricts P class F S φ a)) p s
    (sym (touched_without P F (restricted P φ) p none) ∙ still_touched P F φ p ∙ t)

-- and the other way round
pub lean_from : (P : Variables) (class : Class) (F : Cnf) (S : Positions) → IsLean class (formula_without F P) S → IsLeanUnder P class F S
lean_from P class F S lean φ a p s t = lean φ (to_without P class F S φ a.0 a.1) p s (touched_without P F φ p a.0 ∙ t)

-- every position of the one formula is one of the other
pub same_all : (F : Cnf) (P : Variables) → all_of (formula_without F P) ≡ all_of F
same_all F P = λ i p. is_between 1 (same_count F P i) p

-- so the kernels are the same
pub kernel_to : (P : Variables) (class : Class) (F : Cnf) (kept : List ℕ) → KernelUnder P class F kept → Kernel class (formula_without F P) kept
kernel_to P class F kept k = record {
  positions = subst (λ (m : ℕ). rises_within 0 m kept ≡ true) (sym (same_count F P)) k.positions;
  lean = lean_to P class F (among kept) k.lean;
  largest = λ S within lean. k.largest S (subst (λ (T : Positions). Within S T) (same_all F P) within) (lean_from P class F S lean);
}

pub kernel_from : (P : Variables) (class : Class) (F : Cnf) (kept : List ℕ) → Kernel class (formula_without F P) kept → KernelUnder P class F kept
kernel_from P class F kept k = record {
  positions = subst (λ (m : ℕ). rises_within 0 m kept ≡ true) (same_count F P) k.positions;
  lean = lean_from P class F (among kept) k.lean;
  largest = λ S within lean. k.largest S (subst (λ (T : Positions). Within S T) (sym (same_all F P)) within) (lean_to P class F S lean);
}

-- all of it
pub autarky_law : AutarkyLaw
autarky_law = record {
  autarky = λ P class F S φ. (λ a. (a.0, to_without P class F S φ a.0 a.1), λ a. (a.0, from_without P class F S φ a.0 a.1));
  touched = touched_without;
  restricts = restricts;
  unset = restricted_unset;
  still_touched = still_touched;
  lean = λ P class F S. (lean_to P class F S, lean_from P class F S);
  kernel = λ P class F kept. (kernel_to P class F kept, kernel_from P class F kept);
}
