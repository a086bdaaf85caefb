-- Which of the first positions a test keeps.
use Rattle.std.proofs.Common.{◌≡◌, ℕ, zero, suc, ◌+◌, ◌-◌, ◌<◌, ◌≤◌, ◌∙◌, Bool, true, false, cond, List, [], ◌∷◌, ◌++◌, length, refl, sym, ap, subst, arith}
use Rattle.std.specs.Prelude.{filter}
use Rattle.std.proofs.lemmas.List.{map-id, length-append}
use Rattle.std.proofs.lemmas.List.Elements.{filter-append}
use Rattle.std.proofs.lemmas.List.FromFn.{map-range_with_len_more}
use Rattle.lk_model.specs.Lists.{up_to}
use Rattle.lk_model.proofs.FaultLaws.{at_most_one as one_at_most}

-- one number more
pub up_to-more : (n : ℕ) → up_to (n + 1) ≡ up_to n ++ (n + 1) ∷ []
up_to-more n =
    let e : 1 + n ≡ n + 1 = omega arith in
    sym (map-id (up_to (n + 1))) ∙ map-range_with_len_more (λ (k : ℕ). k) 1 n (n + 1) e ∙ ap (λ (ks : List ℕ). ks ++ (n + 1) ∷ []) (map-id (up_to n))

-- one number more, if the test keeps it
pub filter-up_to-more : (test : ℕ → Bool) (n : ℕ) → filter test (up_to (n + 1)) ≡ filter test (up_to n) ++ cond (test (n + 1)) ((n + 1) ∷ []) []
filter-up_to-more test n = ap (filter test) (up_to-more n) ∙ filter-append test (up_to n) ((n + 1) ∷ [])

kept_length : (b : Bool) (p : ℕ) → length (cond b (p ∷ []) []) ≡ cond b 1 0
kept_length true p = refl
kept_length false p = refl

-- how many are kept
pub kept-more : (test : ℕ → Bool) (n : ℕ) → length (filter test (up_to (n + 1))) ≡ length (filter test (up_to n)) + cond (test (n + 1)) 1 0
kept-more test n =
    ap (λ (ks : List ℕ). length ks) (filter-up_to-more test n)
    ∙ length-append (filter test (up_to n)) (cond (test (n + 1)) ((n + 1) ∷ []) [])
    ∙ ap (λ (m : ℕ). length (filter test (up_to n)) + m) (kept_length (test (n + 1)) (n + 1))

kept-le : (test : ℕ → Bool) (n d : ℕ) → length (filter test (up_to n)) ≤ length (filter test (up_to (n + d)))
kept-le test n zero = let e : n + 0 ≡ n = omega arith in rw e (omega arith)
kept-le test n (suc d) =
    let e : n + suc d ≡ (n + d) + 1 = omega arith in
    rw e (omega (arith, kept-more test (n + d), kept-le test n d))

-- no more than all
pub kept-few : (test : ℕ → Bool) (n : ℕ) → length (filter test (up_to n)) ≤ n
kept-few test zero = omega arith
kept-few test (suc n) =
    let e : suc n ≡ n + 1 = omega arith in
    subst (λ (m : ℕ). length (filter test (up_to m)) ≤ m) (sym e) (omega (arith, kept-more test n, one_at_most (test (n + 1)), kept-few test n))

-- a position that is kept is one more
pub kept-lt : (test : ℕ → Bool) (i m : ℕ) → i < m → test (i + 1) ≡ true → length (filter test (up_to i)) < length (filter test (up_to m))
kept-lt test i m lt here =
    let e : m ≡ (i + 1) + (m - (i + 1)) = omega (arith, lt) in
    let one : length (filter test (up_to (i + 1))) ≡ length (filter test (up_to i)) + 1 = kept-more test i ∙ ap (λ (b : Bool). length (filter test (up_to i)) + cond b 1 0) here in
    subst (λ (n : ℕ). length (filter test (up_to i)) < length (filter test (up_to n))) (sym e) (omega (arith, one, kept-le test (i + 1) (m - (i + 1))))

-- a test that keeps nothing
pub filter-none : (test : ℕ → Bool) (ps : List ℕ) → ((p : ℕ) → test p ≡ false) → filter test ps ≡ []
filter-none test [] h = refl
filter-none test (p ∷ ps) h = ap (λ (b : Bool). cond b (p ∷ filter test ps) (filter test ps)) (h p) ∙ filter-none test ps h
