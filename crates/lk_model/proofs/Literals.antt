-- Literals and tests of them, and the literals of clauses.
use Rattle.std.proofs.Common.{◌≡◌, ℕ, zero, suc, ◌<◌, ◌≤◌, Bool, true, false, not, ◌&&◌, ◌||◌, List, [], ◌∷◌, ◌++◌, length, take, get_or, refl, sym, ◌∙◌, ap, arith, ℤ, pos, negsuc, neg_ℤ, filter, inl, inr, ◌⊎◌}
use Rattle.std.specs.Prelude.{nat_le}
use Rattle.std.specs.Ordering.{int_eq}
use Rattle.std.proofs.lemmas.Grind.{common_steps}
use Rattle.std.proofs.lemmas.Bool.Decides.{Decides-int_eq}
use Rattle.std.proofs.lemmas.List.Folds.{list_any-append, list_all-append, list_any_at}
use Rattle.std.specs.List.{list_any, list_all}
use Rattle.std.proofs.lemmas.Bool.{both_ways, not-true, or_from, false_from_ne_true, leb-true, cases_Bool, and_from}
use Rattle.std.proofs.lemmas.Map.Views.{any-filter_same}
use Rattle.lk_model.specs.Formulas.Literal.{variable, complement, contains, is_literal, is_distinct, is_clause, literal_of, is_positive}
use Rattle.lk_model.proofs.Booleans.{and_true, or_left}
use Rattle.lk_model.specs.Texts.Dimacs.{without_repeats}
use Rattle.lk_model.specs.Lists.{is_empty}

-- literals that pass the test are equal
pub same_int : (a b : ℤ) → int_eq a b ≡ true → a ≡ b
same_int a b e = (Decides-int_eq a b).0 e

-- a literal passes it with itself
pub int_self : (a : ℤ) → int_eq a a ≡ true
int_self a = (Decides-int_eq a a).1 refl

-- a list that is not empty contains a literal
pub some_literal : (c : List ℤ) → is_empty c ≡ false → (l : ℤ) × (contains c l ≡ true)
some_literal [] e = absurd (let f : ⊥ = cc in f)
some_literal (l ∷ c) e = (l, or_left (int_eq l l) (contains c l) (int_self l))

-- COMPLEMENTS

-- the complement of the complement is the literal
pub complement_twice : (l : ℤ) → complement (complement l) ≡ l
complement_twice (pos zero) = refl
complement_twice (pos (suc k)) = refl
complement_twice (negsuc k) = refl

-- a literal and its complement are on one variable
pub variable_complement : (l : ℤ) → variable (complement l) ≡ variable l
variable_complement (pos zero) = refl
variable_complement (pos (suc k)) = refl
variable_complement (negsuc k) = refl

-- two literals on one variable are equal or complements
pub one_variable : (k l : ℤ) → variable k ≡ variable l → (k ≡ l) ⊎ (k ≡ complement l)
one_variable (pos a) (pos b) e = inl (ap pos e)
one_variable (pos a) (negsuc b) e = inr (ap pos e)
one_variable (negsuc a) (pos zero) e = absurd (let f : ⊥ = cc in f)
one_variable (negsuc a) (pos (suc b)) e = inr (ap negsuc (let f : a ≡ b = omega (arith, e) in f))
one_variable (negsuc a) (negsuc b) e = inl (ap negsuc (let f : a ≡ b = omega (arith, e) in f))

-- as the two literals of a variable are
pub variable_negative : (v : ℕ) → variable (neg_ℤ (pos v)) ≡ v
variable_negative zero = refl
variable_negative (suc k) = refl

-- a literal of a variable is on it
pub variable_of : (v : ℕ) (b : Bool) → variable (literal_of v b) ≡ v
variable_of v true = refl
variable_of v false = variable_negative v

-- and has its sign
pub sign_of : (v : ℕ) (b : Bool) → 0 < v → is_positive (literal_of v b) ≡ b
sign_of zero b low = absurd (omega (arith, low))
sign_of (suc k) true low = refl
sign_of (suc k) false low = refl

-- a literal is known by its variable and its sign
pub literal_again : (l : ℤ) → literal_of (variable l) (is_positive l) ≡ l
literal_again (pos v) = refl
literal_again (negsuc k) = refl

-- the complement of a literal over the variables is one
pub complement_literal : (n : ℕ) (l : ℤ) → is_literal n l ≡ true → is_literal n (complement l) ≡ true
complement_literal n l h = rw (variable_complement l) h

-- CLAUSES

-- an empty clause is the one
pub empty_is : (c : List ℤ) → is_empty c ≡ true → c ≡ []
empty_is [] e = refl
empty_is (l ∷ c) e = absurd (let f : ⊥ = cc in f)

-- a clause that contains a literal is not empty
pub filled : (c : List ℤ) (l : ℤ) → contains c l ≡ true → not (is_empty c) ≡ true
filled [] l m = absurd (let f : ⊥ = cc in f)
filled (k ∷ c) l m = refl

-- a literal of one of two clauses
pub in_left : (c d : List ℤ) (l : ℤ) → contains c l ≡ true → contains (c ++ d) l ≡ true
in_left c d l e = list_any-append (int_eq l) c d ∙ or_left (contains c l) (contains d l) e

-- a literal that stands in a filtered clause passes the test and stands in the clause
pub contains_filter : (t : ℤ → Bool) (c : List ℤ) (l : ℤ) → contains (filter t c) l ≡ (t l && contains c l)
contains_filter t c l = any-filter_same (int_eq l) t (t l) (λ k e. ap t (sym (same_int l k e))) c

pub int_eq-same : (x y : ℤ) → int_eq x y ≡ true → int_eq y x ≡ true
int_eq-same x y h = (Decides-int_eq y x).1 (sym ((Decides-int_eq x y).0 h))

or_true : (a b : Bool) → (a || (true || b)) ≡ true
or_true true b = refl
or_true false b = refl

-- a literal after others of which it is one
pub no_repeat : (xs : List ℤ) (t : ℤ) (ts : List ℤ) → is_distinct (xs ++ t ∷ ts) ≡ true → contains xs t ≡ true → ⊥
no_repeat [] t ts d h = absurd cc
no_repeat (x ∷ xs) t ts d h =
    let later : is_distinct (xs ++ t ∷ ts) ≡ true = grind (arith, common_steps) in
    let head : contains (xs ++ t ∷ ts) x ≡ false = grind (arith, common_steps) in
    elim (cases_Bool (int_eq t x)) [
      | inl e ↦ absurd (cc (list_any-append (int_eq x) xs (t ∷ ts), int_eq-same t x e, or_true (list_any (int_eq x) xs) (list_any (int_eq x) ts)))
      | inr e ↦ no_repeat xs t ts later (grind (arith, common_steps))
    ]

-- one literal more, which is a new one
pub distinct-more : (xs : List ℤ) (l : ℤ) → is_distinct xs ≡ true → contains xs l ≡ false → is_distinct (xs ++ l ∷ []) ≡ true
distinct-more [] l d h = refl
distinct-more (x ∷ xs) l d h =
    let later : is_distinct (xs ++ l ∷ []) ≡ true = distinct-more xs l (grind (arith, common_steps)) (grind (arith, common_steps)) in
    let apart : int_eq x l ≡ false = elim (cases_Bool (int_eq x l)) [ inl e ↦ absurd (grind (arith, common_steps, int_eq-same x l e)) | inr e ↦ e ] in
    let head : contains (xs ++ l ∷ []) x ≡ false = list_any-append (int_eq x) xs (l ∷ []) ∙ grind (arith, common_steps) in
    grind (arith, common_steps)

-- the literals before the last one
pub distinct-less : (xs : List ℤ) (l : ℤ) → is_distinct (xs ++ l ∷ []) ≡ true → is_distinct xs ≡ true
distinct-less [] l d = refl
distinct-less (x ∷ xs) l d =
    let later : is_distinct xs ≡ true = distinct-less xs l (grind (arith, common_steps)) in
    let head : contains (xs ++ l ∷ []) x ≡ false = grind (arith, common_steps) in
    let parts : (contains xs x || (int_eq x l || false)) ≡ false = sym (list_any-append (int_eq x) xs (l ∷ [])) ∙ head in
    grind (arith, common_steps)

-- what a test leaves of literals of which none stands twice
pub filter_distinct : (p : ℤ → Bool) (c : List ℤ) → is_distinct c ≡ true → is_distinct (filter p c) ≡ true
filter_distinct p [] h = refl
filter_distinct p (l ∷ c) h = let both = and_true (not (contains c l)) (is_distinct c) h in by_test (p l) refl both.0 (filter_distinct p c both.1)
  where
    absent : (a b : Bool) → not b ≡ true → not (a && b) ≡ true
    absent true b h = h
    absent false b h = refl

    by_test : (b : Bool) → p l ≡ b → not (contains c l) ≡ true → is_distinct (filter p c) ≡ true → is_distinct (filter p (l ∷ c)) ≡ true
    by_test true e first rest =
        let out = ap not (contains_filter p c l) ∙ absent (p l) (contains c l) first in
        rw e (and_from (not (contains (filter p c) l)) (is_distinct (filter p c)) out rest)
    by_test false e first rest = rw e rest

-- without repeats none stands twice
pub once_distinct : (ls : List ℤ) → is_distinct (without_repeats ls) ≡ true
once_distinct [] = refl
once_distinct (l ∷ ls) =
    let others : ℤ → Bool = λ k. not (int_eq l k) in
    let absent : contains (filter others (without_repeats ls)) l ≡ false = contains_filter others (without_repeats ls) l ∙ ap (λ (b : Bool). not b && contains (without_repeats ls) l) (int_self l) in
    and_from (not (contains (filter others (without_repeats ls)) l)) (is_distinct (filter others (without_repeats ls))) (ap not absent)
    (filter_distinct others (without_repeats ls) (once_distinct ls))

pub clause-more : (n : ℕ) (xs : List ℤ) (l : ℤ) → is_clause n xs ≡ true → is_literal n l ≡ true → contains xs l ≡ false → is_clause n (xs ++ l ∷ []) ≡ true
clause-more n xs l c h out =
    let p = and_true _ _ c in
    and_from _ _ (list_all-append (is_literal n) xs (l ∷ []) ∙ and_from _ _ p.0 (and_from _ _ h refl)) (distinct-more xs l p.1 out)

pub clause-less : (n : ℕ) (xs : List ℤ) (l : ℤ) → is_clause n (xs ++ l ∷ []) ≡ true → is_clause n xs ≡ true
clause-less n xs l c =
    let p = and_true _ _ c in
    let q = and_true _ _ (sym (list_all-append (is_literal n) xs (l ∷ [])) ∙ p.0) in
    and_from _ _ q.0 (distinct-less xs l p.1)

-- the last literal of a clause
pub clause-last : (n : ℕ) (xs : List ℤ) (l : ℤ) → is_clause n (xs ++ l ∷ []) ≡ true → is_literal n l ≡ true
clause-last n xs l c =
    let p = and_true _ _ c in
    let q = and_true _ _ (sym (list_all-append (is_literal n) xs (l ∷ [])) ∙ p.0) in
    (and_true _ _ q.1).0

pub clause-apart : (n : ℕ) (xs : List ℤ) (l : ℤ) → is_clause n (xs ++ l ∷ []) ≡ true → contains xs l ≡ false
clause-apart n xs l c = elim (cases_Bool (contains xs l)) [
  | inl e ↦ absurd (no_repeat xs l [] (and_true _ _ c).1 e)
  | inr e ↦ e
]

-- the literals of a clause are literals
pub clause_literals : (n : ℕ) (c : List ℤ) → is_clause n c ≡ true → list_all (is_literal n) c ≡ true
clause_literals n c h = (and_true (list_all (is_literal n) c) (is_distinct c) h).0

-- each literal of a clause is one over its variables
pub literal_at : (n : ℕ) (c : List ℤ) (i : ℕ) (d : ℤ) → list_all (is_literal n) c ≡ true → i < length c → is_literal n (get_or c i d) ≡ true
literal_at n [] i d h lt = absurd (omega (arith, lt))
literal_at n (x ∷ xs) zero d h lt = (and_true _ _ h).0
literal_at n (x ∷ xs) (suc i) d h lt = literal_at n xs i d (and_true _ _ h).1 (omega (arith, lt))

-- it is none of those before it
pub new_at : (c : List ℤ) (i : ℕ) (d : ℤ) → is_distinct c ≡ true → i < length c → contains (take i c) (get_or c i d) ≡ false
new_at [] i d h lt = absurd (omega (arith, lt))
new_at (x ∷ xs) zero d h lt = refl
new_at (x ∷ xs) (suc i) d h lt =
    let parts = and_true (not (contains xs x)) (is_distinct xs) h in
    let inside : i < length xs = omega (arith, lt) in
    or_from _ _ (false_from_ne_true _ (λ e.
    let same = (Decides-int_eq (get_or xs i d) x).0 e in
    both_ways (contains xs x) (not-true _ parts.0) (list_any_at (int_eq x) xs i d inside ((Decides-int_eq x (get_or xs i d)).1 (sym same)))))
    (new_at xs i d parts.1 inside)

-- a list with a literal of another variable is no clause
pub beyond : (n : ℕ) (c : List ℤ) (i : ℕ) (d : ℤ) → i < length c → n < variable (get_or c i d) → false ≡ is_clause n c
beyond n c i d lt past = elim (cases_Bool (is_clause n c)) [
  | inl e ↦ absurd (let lit = literal_at n c i d (and_true _ _ e).0 lt in let fits : variable (get_or c i d) ≤ n = leb-true _ _ (and_true (nat_le 1 (variable (get_or c i d))) _ lit).1 in omega (arith, fits, past))
  | inr e ↦ sym e
]

-- nor is one with a literal twice
pub twice : (n : ℕ) (c : List ℤ) (i : ℕ) (d : ℤ) → i < length c → contains (take i c) (get_or c i d) ≡ true → false ≡ is_clause n c
twice n c i d lt again = elim (cases_Bool (is_clause n c)) [
  | inl e ↦ sym (new_at c i d (and_true _ _ e).1 lt) ∙ again ∙ sym e
  | inr e ↦ sym e
]
