-- Numbers of `v` lines, which may stand in an order as far as they go.
use Rattle.std.proofs.Common.{◌≡◌, ◌∙◌, zero, suc, Bool, true, false, not, cond, ◌||◌, List, [], ◌∷◌, ◌++◌, refl, sym, ap, ℤ, pos, negsuc, inl, inr}
use Rattle.std.specs.List.{list_any}
use Rattle.std.specs.Ordering.{int_eq}
use Rattle.std.proofs.lemmas.Bool.{cases_Bool, not-true, and_from}
use Rattle.std.proofs.lemmas.List.Folds.{list_all-append}
use Rattle.std.proofs.lemmas.List.Elements.{filter-append}
use Rattle.lk_model.specs.Lists.{is_empty, is_zero, is_nonzero}
use Rattle.lk_model.specs.Formulas.Literal.{complement, contains}
use Rattle.lk_model.specs.Texts.ModelText.{ends_at_zero, literals_among, is_consistent}
use Rattle.lk_model.proofs.Booleans.{and_true, or_true, or_false}
use Rattle.lk_model.proofs.ListTests.{all_weaker, passes_each}
use Rattle.lk_model.proofs.Founds.{all_literals}
use Rattle.lk_model.proofs.Flags.{contains-push, contains_here as contains_last}
use Rattle.lk_model.proofs.Literals.{same_int, complement_twice, in_left as contains_front}
use Rattle.model_text.specs.ModelTexts.{may_stand}

-- a test that cannot pass fails
pub fails : (b : Bool) → (b ≡ true → ⊥) → b ≡ false
fails true h = absurd (h refl)
fails false h = refl

-- THE 0 AT THE END

empty_before : (xs ys : List ℤ) → is_empty (xs ++ ys) ≡ true → is_empty xs ≡ true
empty_before [] ys h = refl
empty_before (x ∷ xs) ys h = h

ends_before : (xs ys : List ℤ) → ends_at_zero (xs ++ ys) ≡ true → ends_at_zero xs ≡ true
ends_before [] ys h = refl
ends_before (x ∷ xs) ys h = elim (cases_Bool (is_zero x)) [
  | inl e ↦ rw e (empty_before xs ys (sym (ap (λ (b : Bool). cond b (is_empty (xs ++ ys)) (ends_at_zero (xs ++ ys))) e) ∙ h))
  | inr e ↦ rw e (ends_before xs ys (sym (ap (λ (b : Bool). cond b (is_empty (xs ++ ys)) (ends_at_zero (xs ++ ys))) e) ∙ h))
]

-- after numbers without a 0
pub ends_open : (xs ys : List ℤ) → list_any is_zero xs ≡ false → ends_at_zero (xs ++ ys) ≡ ends_at_zero ys
ends_open [] ys h = refl
ends_open (x ∷ xs) ys h =
    let p = or_false (is_zero x) (list_any is_zero xs) h in
    ap (λ (b : Bool). cond b (is_empty (xs ++ ys)) (ends_at_zero (xs ++ ys))) p.0 ∙ ends_open xs ys p.1

pub ends_more : (xs : List ℤ) (x : ℤ) → list_any is_zero xs ≡ false → ends_at_zero (xs ++ x ∷ []) ≡ true
ends_more xs x h = ends_open xs (x ∷ []) h ∙ alone (is_zero x)
  where
    alone : (b : Bool) → cond b true true ≡ true
    alone true = refl
    alone false = refl

-- nothing may stand after a 0
not_empty_more : (xs : List ℤ) (x : ℤ) → is_empty (xs ++ x ∷ []) ≡ false
not_empty_more [] x = refl
not_empty_more (y ∷ ys) x = refl

ends_closed : (xs : List ℤ) (y : ℤ) → list_any is_zero xs ≡ true → ends_at_zero (xs ++ y ∷ []) ≡ false
ends_closed [] y h = absurd (let f : ⊥ = cc in f)
ends_closed (x ∷ xs) y h = elim (cases_Bool (is_zero x)) [
  | inl e ↦ rw e (not_empty_more xs y)
  | inr e ↦ rw e (ends_closed xs y (sym (ap (λ (b : Bool). b || list_any is_zero xs) e) ∙ h))
]

-- CONSISTENT LITERALS

absent_front : (xs ys : List ℤ) (k : ℤ) → not (contains (xs ++ ys) k) ≡ true → not (contains xs k) ≡ true
absent_front xs ys k h = elim (cases_Bool (contains xs k)) [
  | inl y ↦ absurd (let there = contains_front xs ys k y in let f : ⊥ = cc (sym (ap not there) ∙ h) in f)
  | inr y ↦ ap not y
]

consistent_before : (xs ys : List ℤ) → is_consistent (xs ++ ys) ≡ true → is_consistent xs ≡ true
consistent_before xs ys h =
    let p = and_true _ _ (sym (list_all-append (λ (l : ℤ). not (contains (xs ++ ys) (complement l))) xs ys) ∙ h) in
    all_weaker (λ (l : ℤ). not (contains (xs ++ ys) (complement l))) (λ (l : ℤ). not (contains xs (complement l))) (λ l e. absent_front xs ys (complement l) e) xs p.0

-- the complement of a literal that stands there does not
pub apart : (ls : List ℤ) (l : ℤ) → is_consistent ls ≡ true → contains ls l ≡ true → contains ls (complement l) ≡ false
apart ls l h there = not-true (contains ls (complement l)) (passes_each (λ (k : ℤ). not (contains ls (complement k))) ls l h there)

-- a literal is not its own complement
own_complement : (l : ℤ) → complement l ≡ l → is_zero l ≡ true
own_complement (pos zero) e = refl
own_complement (pos (suc v)) e = absurd (let f : ⊥ = cc in f)
own_complement (negsuc k) e = absurd (let f : ⊥ = cc in f)

-- a literal more whose complement does not stand there
pub consistent_more : (ls : List ℤ) (l : ℤ) → is_consistent ls ≡ true → contains ls (complement l) ≡ false → is_zero l ≡ false → is_consistent (ls ++ l ∷ []) ≡ true
consistent_more ls l h out nonzero = all_literals (λ (k : ℤ). not (contains (ls ++ l ∷ []) (complement k))) (ls ++ l ∷ []) (λ k there. ap not (absent k there))
  where
    other : (k : ℤ) → contains ls (complement k) ≡ false → (complement k ≡ l → ⊥) → contains (ls ++ l ∷ []) (complement k) ≡ false
    other k absent apart = contains-push ls l (complement k) ∙ rw (absent, fails (int_eq (complement k) l) (λ e. apart (same_int (complement k) l e))) refl

    absent : (k : ℤ) → contains (ls ++ l ∷ []) k ≡ true → contains (ls ++ l ∷ []) (complement k) ≡ false
    absent k there = elim (or_true (contains ls k) (int_eq k l || false) (sym (contains-push ls l k) ∙ there)) [
      | inl earlier ↦ other k (apart ls k h earlier) (λ e.
          let back : complement l ≡ k = ap complement (sym e) ∙ complement_twice k in
          let both : contains ls k ≡ false = ap (contains ls) (sym back) ∙ out in
          let f : ⊥ = cc (sym earlier ∙ both) in f)
      | inr last ↦ elim (or_true (int_eq k l) false last) [
        | inl here ↦ (let same = same_int k l here in
            other k (ap (λ (j : ℤ). contains ls (complement j)) same ∙ out) (λ e.
            let zero = own_complement l (ap complement (sym same) ∙ e) in
            let f : ⊥ = cc (sym zero ∙ nonzero) in f))
        | inr none ↦ absurd (let f : ⊥ = cc in f)
      ]
    ]

-- one whose complement does
pub consistent_less : (ls : List ℤ) (l : ℤ) → contains ls (complement l) ≡ true → is_consistent (ls ++ l ∷ []) ≡ false
consistent_less ls l there = fails (is_consistent (ls ++ l ∷ [])) (λ h.
    let absent = apart (ls ++ l ∷ []) l h (contains_last ls l) in
    let f : ⊥ = cc (sym (contains_front ls (l ∷ []) (complement l) there) ∙ absent) in f)

-- NUMBERS

pub literals_more : (xs ys : List ℤ) → literals_among (xs ++ ys) ≡ literals_among xs ++ literals_among ys
literals_more xs ys = filter-append is_nonzero xs ys

pub literals_last : (x : ℤ) → is_zero x ≡ false → literals_among (x ∷ []) ≡ x ∷ []
literals_last x e = rw e refl

pub zero_last : (x : ℤ) → is_zero x ≡ true → literals_among (x ∷ []) ≡ []
zero_last x e = rw e refl

-- what may stand may stand without the last ones
pub may_before : (xs ys : List ℤ) → may_stand (xs ++ ys) ≡ true → may_stand xs ≡ true
may_before xs ys h =
    let p = and_true (ends_at_zero (xs ++ ys)) (is_consistent (literals_among (xs ++ ys))) h in
    and_from (ends_at_zero xs) (is_consistent (literals_among xs)) (ends_before xs ys p.0)
    (consistent_before (literals_among xs) (literals_among ys) (sym (ap is_consistent (literals_more xs ys)) ∙ p.1))

-- nothing may stand after a 0, and no literal after its complement
pub closed_more : (xs : List ℤ) (x : ℤ) → list_any is_zero xs ≡ true → may_stand (xs ++ x ∷ []) ≡ false
closed_more xs x h = rw (ends_closed xs x h) refl

pub complement_more : (xs : List ℤ) (x : ℤ) → is_zero x ≡ false → contains (literals_among xs) (complement x) ≡ true → may_stand (xs ++ x ∷ []) ≡ false
complement_more xs x nonzero there =
    let ls : literals_among (xs ++ x ∷ []) ≡ literals_among xs ++ x ∷ [] = literals_more xs (x ∷ []) ∙ ap (λ (ks : List ℤ). literals_among xs ++ ks) (literals_last x nonzero) in
    fails (may_stand (xs ++ x ∷ [])) (λ h.
    let p = and_true (ends_at_zero (xs ++ x ∷ [])) (is_consistent (literals_among (xs ++ x ∷ []))) h in
    let f : ⊥ = cc (sym (ap is_consistent ls ∙ consistent_less (literals_among xs) x there) ∙ p.1) in f)
