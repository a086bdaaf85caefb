-- Tests over the items of lists.
use Rattle.std.proofs.Common.{◌≡◌, ◌≢◌, ◌∙◌, ℕ, zero, suc, ◌<◌, Bool, true, false, cond, not, List, [], ◌∷◌, ◌++◌, length, get_or, filter, All, refl, sym, ap, subst, arith, ℤ, pos, inl, inr}
use Rattle.std.specs.Prelude.{◌==◌}
use Rattle.std.specs.List.{list_any, list_all}
use Rattle.std.specs.Ordering.{int_eq}
use Rattle.std.proofs.lemmas.Bool.{eqb-true, not-true, and_from, not-false}
use Rattle.std.proofs.lemmas.Bool.Decides.{Decides-int_eq}
use Rattle.lk_model.specs.Lists.{among, is_zero, is_nonzero}
use Rattle.lk_model.specs.Formulas.Literal.{contains, is_literal}
use Rattle.lk_model.specs.Formulas.Formula.{Cnf, clause_at, is_formula}
use Rattle.lk_model.proofs.Booleans.{and_true, or_true, or_left, or_right}
use Rattle.lk_model.proofs.Lists.{among_here, among_later}
use Rattle.lk_model.proofs.Clauses.{literals_of}
use Rattle.lk_model.proofs.Literals.{same_int}

-- one of the literals passes where one that stands there does
pub passes_one : (t : ℤ → Bool) (c : List ℤ) (l : ℤ) → contains c l ≡ true → t l ≡ true → list_any t c ≡ true
passes_one t [] l there e = absurd (let f : ⊥ = cc in f)
passes_one t (k ∷ c) l there e = elim (or_true (int_eq l k) (contains c l) there) [
  | inl here ↦ or_left (t k) (list_any t c) (ap t (sym ((Decides-int_eq l k).0 here)) ∙ e)
  | inr later ↦ or_right (t k) (list_any t c) (passes_one t c l later e)
]

-- what each literal passes, one that stands there passes
pub passes_each : (t : ℤ → Bool) (c : List ℤ) (l : ℤ) → list_all t c ≡ true → contains c l ≡ true → t l ≡ true
passes_each t [] l all there = absurd (let f : ⊥ = cc in f)
passes_each t (k ∷ c) l all there =
    let both = and_true (t k) (list_all t c) all in
    elim (or_true (int_eq l k) (contains c l) there) [
      | inl here ↦ ap t ((Decides-int_eq l k).0 here) ∙ both.0
      | inr later ↦ passes_each t c l both.1 later
    ]

-- what each number of a list passes, one of them passes
pub one_number : (t : ℕ → Bool) (ns : List ℕ) (k : ℕ) → list_all t ns ≡ true → among ns k ≡ true → t k ≡ true
one_number t [] k h m = absurd (let f : ⊥ = cc in f)
one_number t (n ∷ ns) k h m =
    let both = and_true (t n) (list_all t ns) h in
    elim (or_true (n == k) (among ns k) m) [
      | inl here ↦ subst (λ (j : ℕ). t j ≡ true) (eqb-true n k here) both.0
      | inr later ↦ one_number t ns k both.1 later
    ]

-- and what each of them passes, all pass
pub each_number : (t : ℕ → Bool) (ns : List ℕ) → ((k : ℕ) → among ns k ≡ true → t k ≡ true) → list_all t ns ≡ true
each_number t [] h = refl
each_number t (n ∷ ns) h = and_from (t n) (list_all t ns) (h n (among_here n ns)) (each_number t ns (λ k m. h k (among_later n k ns m)))

-- one of the positions passes where one that is among them does
pub passes_among : (t : ℕ → Bool) (ps : List ℕ) (p : ℕ) → among ps p ≡ true → t p ≡ true → list_any t ps ≡ true
passes_among t [] p there e = absurd (let f : ⊥ = cc in f)
passes_among t (q ∷ ps) p there e = elim (or_true (q == p) (among ps p) there) [
  | inl here ↦ or_left (t q) (list_any t ps) (ap t (eqb-true q p here) ∙ e)
  | inr later ↦ or_right (t q) (list_any t ps) (passes_among t ps p later e)
]

-- a position that passes, where one does
pub passing : (t : ℕ → Bool) (ps : List ℕ) → list_any t ps ≡ true → (p : ℕ) × (among ps p ≡ true) × (t p ≡ true)
passing t [] e = absurd (let f : ⊥ = cc in f)
passing t (p ∷ ps) e = elim (or_true (t p) (list_any t ps) e) [
  | inl here ↦ (p, among_here p ps, here)
  | inr later ↦ (let w = passing t ps later in (w.0, among_later p w.0 ps w.1, w.2))
]

-- what passes one test at each element passes a weaker one
pub all_weaker : {X : Type 0} (p q : X → Bool) → ((x : X) → p x ≡ true → q x ≡ true) → (xs : List X) → list_all p xs ≡ true → list_all q xs ≡ true
all_weaker p q h [] e = refl
all_weaker p q h (x ∷ xs) e = let b = and_true (p x) (list_all p xs) e in rw (h x b.0, all_weaker p q h xs b.1) refl

-- one element more that passes
pub all_more : {X : Type 0} (p : X → Bool) (xs : List X) (x : X) → list_all p xs ≡ true → p x ≡ true → list_all p (xs ++ x ∷ []) ≡ true
all_more p [] x a e = rw e refl
all_more p (y ∷ ys) x a e = let b = and_true (p y) (list_all p ys) a in rw (b.0) (all_more p ys x b.1 e)

-- what each element passes, the one at a place passes
pub all_at : {X : Type 0} (p : X → Bool) (xs : List X) (i : ℕ) (d : X) → list_all p xs ≡ true → i < length xs → p (get_or xs i d) ≡ true
all_at p [] i d h lt = absurd (omega arith)
all_at p (x ∷ xs) zero d h lt = (and_true (p x) (list_all p xs) h).0
all_at p (x ∷ xs) (suc i) d h lt = all_at p xs i d (and_true (p x) (list_all p xs) h).1 (omega arith)

-- and so do those that are left by another test
pub all_left : (t p : ℤ → Bool) (c : List ℤ) → list_all t c ≡ true → list_all t (filter p c) ≡ true
all_left t p [] h = refl
all_left t p (l ∷ c) h = (let a = and_true (t l) (list_all t c) h in at (p l) a.0 (all_left t p c a.1))
  where
    at : (b : Bool) → t l ≡ true → list_all t (filter p c) ≡ true → list_all t (cond b (l ∷ filter p c) (filter p c)) ≡ true
    at true e rest = rw (e, rest) refl
    at false e rest = rest

-- a test that passes nowhere
pub none_pass : (p : ℕ → Bool) (xs : List ℕ) → list_all (λ b. not (p b)) xs ≡ true → All (λ b. p b ≡ false) xs
none_pass p [] h k d lt = absurd (omega (arith, lt))
none_pass p (x ∷ xs) h zero d lt = not-true (p x) (and_true _ _ h).0
none_pass p (x ∷ xs) h (suc k) d lt = none_pass p xs (and_true _ _ h).1 k d (omega (arith, lt))

-- LITERALS OF A FORMULA

-- a literal of a clause of a formula is one over its variables
pub literal_within : (F : Cnf) (p : ℕ) (l : ℤ) → is_formula F ≡ true → contains (clause_at F p) l ≡ true → is_literal F.vars l ≡ true
literal_within F p l form there = passes_each (is_literal F.vars) (clause_at F p) l (literals_of F p form) there

-- and so it is not 0
pub not_zero : (n : ℕ) (l : ℤ) → is_literal n l ≡ true → l ≢ pos 0
not_zero n l lit is = let zero_is : is_literal n (pos 0) ≡ true = subst (λ (k : ℤ). is_literal n k ≡ true) is lit in cc

-- and passes the test
pub real_literal : (n : ℕ) (l : ℤ) → is_literal n l ≡ true → is_nonzero l ≡ true
real_literal n l e = at_test (is_nonzero l) refl
  where
    at_test : (b : Bool) → is_nonzero l ≡ b → b ≡ true
    at_test true z = refl
    at_test false z = absurd (not_zero n l e (sym (same_int (pos zero) l (not-false (is_zero l) z))))

-- a literal that passes it is not 0
pub real : (l : ℤ) → is_nonzero l ≡ true → l ≢ pos 0
real l e same = let f : is_nonzero (pos 0) ≡ true = subst (λ (k : ℤ). is_nonzero k ≡ true) same e in let g : ⊥ = cc in g

-- and one that does not is 0
pub zero_is : (x : ℤ) → is_nonzero x ≡ false → x ≡ pos 0
zero_is x e = by_test (is_zero x) refl e
  where
    by_test : (b : Bool) → is_zero x ≡ b → not b ≡ false → x ≡ pos 0
    by_test true s f = sym ((Decides-int_eq (pos 0) x).0 s)
    by_test false s f = absurd (let g : ⊥ = cc in g)
