-- The variables that occur, one after another.
use Rattle.std.proofs.Common.{◌≡◌, ℕ, zero, suc, ◌+◌, ◌-◌, ◌<◌, ◌≤◌, ◌||◌, ◌==◌, length, take, get_or-set_same, get_or-set_other, Bool, true, false, cond, List, [], ◌∷◌, ◌++◌, replicate, get_or, filter, refl, sym, ap, ◌∙◌, subst, arith, ℤ}
use Rattle.std.proofs.lemmas.List.{append-nil}
use Rattle.std.proofs.lemmas.List.Folds.{list_any_more}
use Rattle.std.proofs.lemmas.Bool.{eqb-true, eqb-false}
use Rattle.std.proofs.Math.Bool.{or-false, or_assoc}
use Rattle.std.specs.Prelude.{slice_set}
use Rattle.lk_model.proofs.Booleans.{or_right}
use Rattle.std.proofs.lemmas.List.Elements.{All-append, All-cons, All-nil}
use Rattle.std.specs.List.{All, range_with_len}
use Rattle.lk_model.specs.Formulas.Literal.{mentions, variable}
use Rattle.lk_model.specs.Lists.{among, up_to}
use Rattle.lk_model.specs.Held.VariableSets.{is_in, with_variable}

pub none_at : (n k : ℕ) → get_or (replicate n false) k false ≡ false
none_at zero k = refl
none_at (suc n) zero = refl
none_at (suc n) (suc k) = none_at n k

pub none_in : (n v : ℕ) → is_in (replicate n false) v ≡ false
none_in n zero = refl
none_in n (suc k) = none_at n k

-- a variable that is put in
pub is_in_with : (flags : List Bool) (x v : ℕ) → 0 < x → x ≤ length flags → is_in (with_variable flags x) v ≡ (is_in flags v || x == v)
is_in_with flags zero v first last = absurd (omega (arith, first))
is_in_with flags (suc k) zero first last = by_test (suc k == 0) refl
  where
    by_test : (b : Bool) → (suc k == 0) ≡ b → false ≡ b
    by_test true e = let same = eqb-true (suc k) 0 e in absurd (omega (arith, same))
    by_test false e = refl
is_in_with flags (suc k) (suc j) first last =
    ap (λ i. get_or (slice_set flags i true) j false) (let place : suc k - 1 ≡ k = omega arith in place) ∙ by_test (suc k == suc j) refl
  where
    by_test : (b : Bool) → (suc k == suc j) ≡ b → get_or (slice_set flags k true) j false ≡ (get_or flags j false || b)
    by_test true e =
        let same = eqb-true (suc k) (suc j) e in
        let place : j ≡ k = omega (arith, same) in
        ap (λ i. get_or (slice_set flags k true) i false) place ∙ get_or-set_same flags k true false (omega (arith, last)) ∙ sym (or_right (get_or flags j false) true refl)
    by_test false e =
        get_or-set_other flags k j true false (λ same. eqb-false (suc k) (suc j) e (ap suc (sym same))) ∙ sym (or-false (get_or flags j false))

-- one more of the variables is put in
pub in_more : (start flags : List Bool) (vs : List ℕ) (i v : ℕ) → i < length vs → 0 < get_or vs i 0 → get_or vs i 0 ≤ length flags
    → is_in flags v ≡ (is_in start v || among (take i vs) v) → is_in (with_variable flags (get_or vs i 0)) v ≡ (is_in start v || among (take (i + 1) vs) v)
in_more start flags vs i v lt first last e =
    is_in_with flags (get_or vs i 0) v first last ∙ ap (λ b. b || get_or vs i 0 == v) e ∙ or_assoc (is_in start v) (among (take i vs) v) (get_or vs i 0 == v)
    ∙ ap (λ b. is_in start v || b) (sym (list_any_more (λ k. k == v) vs i 0 lt))

-- the variable of one more of the literals is put in
pub mentioned_more : (start flags : List Bool) (c : List ℤ) (i v : ℕ) (l : ℤ) (x : ℕ) → i < length c → l ≡ get_or c i l → x ≡ variable l → 0 < x → x ≤ length flags
    → is_in flags v ≡ (is_in start v || mentions (take i c) v) → is_in (with_variable flags x) v ≡ (is_in start v || mentions (take (i + 1) c) v)
mentioned_more start flags c i v l x lt is var first last e =
    is_in_with flags x v first last ∙ ap (λ b. b || x == v) e ∙ or_assoc (is_in start v) (mentions (take i c) v) (x == v)
    ∙ ap (λ b. is_in start v || b) (ap (λ (k : ℕ). mentions (take i c) v || k == v) (var ∙ ap variable is) ∙ sym (list_any_more (λ (k : ℤ). variable k == v) c i l lt))

-- the number where it passes
abbrev one : (ℕ → Bool) → ℕ → List ℕ
one p k = cond (p k) (k ∷ []) []

filter_more : (p : ℕ → Bool) (a n : ℕ) → filter p (range_with_len a (n + 1)) ≡ filter p (range_with_len a n) ++ cond (p (a + n)) ((a + n) ∷ []) []
filter_more p a zero = by_place (let same : a ≡ a + 0 = omega arith in same)
  where
    by_place : a ≡ a + 0 → filter p (a ∷ []) ≡ cond (p (a + 0)) ((a + 0) ∷ []) []
    by_place e = ap (one p) e
filter_more p a (suc n) =
    let more : suc n + 1 ≡ suc (n + 1) = omega arith in
    let place : a + 1 + n ≡ a + suc n = omega arith in
    rw more (by_test (p a) (filter_more p (a + 1) n ∙ ap (λ k. filter p (range_with_len (a + 1) n) ++ one p k) place))
  where
    by_test : (b : Bool) → filter p (range_with_len (a + 1) (n + 1)) ≡ filter p (range_with_len (a + 1) n) ++ cond (p (a + suc n)) ((a + suc n) ∷ []) []
        → cond b (a ∷ filter p (range_with_len (a + 1) (n + 1))) (filter p (range_with_len (a + 1) (n + 1))) ≡ cond b (a ∷ filter p (range_with_len (a + 1) n)) (filter p (range_with_len (a + 1) n)) ++ cond (p (a + suc n)) ((a + suc n) ∷ []) []
    by_test true e = ap (λ ks. a ∷ ks) e
    by_test false e = e

-- one more number that may pass
filter_step : (p : ℕ → Bool) (k : ℕ) (before after : List ℕ) (b : Bool) → before ≡ filter p (up_to k) → b ≡ p (k + 1) → after ≡ before ++ cond b ((k + 1) ∷ []) [] → after ≡ filter p (up_to (k + 1))
filter_step p k before after b e f g =
    g ∙ (λ j. e j ++ cond (f j) ((k + 1) ∷ []) []) ∙ ap (λ n. filter p (up_to k) ++ one p n) (let same : k + 1 ≡ 1 + k = omega arith in same) ∙ sym (filter_more p 1 k)

-- it passes
pub filter_took : (p : ℕ → Bool) (k : ℕ) (before after : List ℕ) → before ≡ filter p (up_to k) → p (k + 1) ≡ true → after ≡ before ++ (k + 1) ∷ [] → after ≡ filter p (up_to (k + 1))
filter_took p k before after e f g = filter_step p k before after true e (sym f) g

pub took_within : (most k : ℕ) (before after : List ℕ) → All (λ v. v ≤ most) before → k + 1 ≤ most → after ≡ before ++ (k + 1) ∷ [] → All (λ v. v ≤ most) after
took_within most k before after all le e =
    subst (All (λ v. v ≤ most)) (sym e) (All-append (λ v. v ≤ most) before ((k + 1) ∷ []) all (All-cons (λ v. v ≤ most) (k + 1) [] le (All-nil (λ v. v ≤ most))))

-- it does not
pub filter_left : (p : ℕ → Bool) (k : ℕ) (before after : List ℕ) → before ≡ filter p (up_to k) → p (k + 1) ≡ false → after ≡ before → after ≡ filter p (up_to (k + 1))
filter_left p k before after e f g = filter_step p k before after false e (sym f) (g ∙ sym (append-nil before))
