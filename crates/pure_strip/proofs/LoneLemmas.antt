-- The variables that occur in one sign only.
use Rattle.std.proofs.Common.{◌≡◌, ◌≢◌, ℕ, zero, suc, ◌+◌, ◌*◌, ◌<◌, ◌≤◌, Bool, true, false, ◌&&◌, ◌||◌, nat_eq, nat_lt, ◌==◌, List, [], ◌∷◌, length, get_or, refl, sym, ◌∙◌, ap, arith, ℤ, pos, negsuc, ◌⊎◌, inl, inr, get_or-set_same, get_or-set_other, Contains, IsPermutation, IfSome, IfNone}
use Rattle.std.specs.Prelude.{slice_set, neg_ℤ, Option, Some, None, find, flat_map}
use Rattle.std.specs.List.{range_with_len}
use Rattle.std.proofs.lemmas.List.{length-set}
use Rattle.std.proofs.lemmas.List.Elements.{Contains-append_cases, Contains-append_right}
use Rattle.std.proofs.lemmas.List.Sorted.{Contains-permutation, IsPermutation-sym}
use Rattle.std.proofs.lemmas.Bool.Decides.{nat_tests}
use Rattle.std.proofs.lemmas.Grind.{get_or_default_zero}
use Rattle.std.proofs.lemmas.Bool.{cases_Bool, eqb-true, eqb-false, false_from_ne_true as fails}
use Rattle.std.proofs.Math.Bool.{or_comm}
use Rattle.lk_model.specs.Formulas.Literal.{variable, complement, rank_of, is_literal}
use Rattle.lk_model.specs.Formulas.PureRun.{literals_to}
use Rattle.lk_model.proofs.Booleans.{or_false}
use Rattle.lk_model.proofs.Ranks.{literal_bounds, rank_apart, rank_small}
use Rattle.lk_model.proofs.Literals.{complement_twice}
use Rattle.pure_strip.specs.Counted.{count_of, is_lone, is_lone_variable, lone_of, AreLone, AreStill, IsFirstLone}

-- ---- what a write at a literal changes
-- a write at a literal leaves the counts of other variables
count-apart : (counts : List ℕ) (l k : ℤ) (x : ℕ) → variable k ≢ variable l → count_of (slice_set counts (rank_of l) x) k ≡ count_of counts k
count-apart counts l k x ne =
    let other : rank_of k ≢ rank_of l = λ r. ne (ap variable (rank_apart k l r)) in
    get_or-set_other counts (rank_of l) (rank_of k) x 0 other

-- a write at a literal leaves the other variables lone or not
lone-apart : (counts : List ℕ) (l : ℤ) (x v : ℕ) → v ≢ variable l → is_lone_variable (slice_set counts (rank_of l) x) v ≡ is_lone_variable counts v
lone-apart counts l x zero ne = rw (count-apart counts l (pos 0) x ne) refl
lone-apart counts l x (suc k) ne = rw (count-apart counts l (pos (suc k)) x ne, count-apart counts l (negsuc k) x ne) refl

-- a variable is lone if either of its literals is, in any order
lone-read : (counts : List ℕ) (l : ℤ) → is_lone_variable counts (variable l) ≡ (is_lone counts l || is_lone counts (complement l))
lone-read counts (pos zero) = refl
lone-read counts (pos (suc k)) = refl
lone-read counts (negsuc k) = or_comm (is_lone counts (pos (suc k))) (is_lone counts (negsuc k))

-- the two literals of a variable have two ranks
rank-complement : (l : ℤ) → 1 ≤ variable l → rank_of (complement l) ≢ rank_of l
rank-complement (pos zero) h = absurd (omega arith)
rank-complement (pos (suc k)) h = λ e. omega arith
rank-complement (negsuc k) h = λ e. omega arith

-- the count at a literal after a write there
count-written : (n : ℕ) (counts : List ℕ) (l : ℤ) (x : ℕ) → length counts ≡ 2 * n + 2 → is_literal n l ≡ true → count_of (slice_set counts (rank_of l) x) l ≡ x
count-written n counts l x size lit =
    let within : rank_of l < length counts = omega (arith, rank_small n l lit) in
    get_or-set_same counts (rank_of l) x 0 within

-- the count at the complement after a write at a literal
count-across : (n : ℕ) (counts : List ℕ) (l : ℤ) (x : ℕ) → is_literal n l ≡ true → count_of (slice_set counts (rank_of l) x) (complement l) ≡ count_of counts (complement l)
count-across n counts l x lit = get_or-set_other counts (rank_of l) (rank_of (complement l)) x 0 (rank-complement l (literal_bounds n l lit).0)

-- whether a variable is lone, by its two counts
lone-by_counts : (counts : List ℕ) (l : ℤ) (a b : ℕ) → count_of counts l ≡ a → count_of counts (complement l) ≡ b → is_lone_variable counts (variable l) ≡ ((nat_lt 0 a && nat_eq b 0) || (nat_lt 0 b && nat_eq a 0))
lone-by_counts counts l a b p q =
    let back : count_of counts (complement (complement l)) ≡ a = ap (count_of counts) (complement_twice l) ∙ p in
    lone-read counts l ∙ rw (back, p, q) refl

-- a variable whose counts are 0 is not lone
out_by_counts : (b : ℕ) → b ≡ 0 → ((nat_lt 0 0 && nat_eq b 0) || (nat_lt 0 b && nat_eq 0 0)) ≡ false
out_by_counts b h = grind (arith, nat_tests)

-- while the count is not 0, how much it is does not matter
stays_by_counts : (a x b : ℕ) → a ≢ 0 → x ≢ 0 → ((nat_lt 0 x && nat_eq b 0) || (nat_lt 0 b && nat_eq x 0)) ≡ ((nat_lt 0 a && nat_eq b 0) || (nat_lt 0 b && nat_eq a 0))
stays_by_counts a x b g h = grind (arith, nat_tests)

-- The variables are known as before where a write at a literal lowers no other one, and what it makes of its own is
-- known.
Lone-written : (n : ℕ) (counts : List ℕ) (next : ℕ) (back after : List ℕ) (l : ℤ) (x : ℕ) → AreLone n counts next back → ((v : ℕ) → Contains after v → (0 < v) × (v < next)) → ((v : ℕ) → Contains back v → Contains after v)
    → (variable l < next → is_lone_variable (slice_set counts (rank_of l) x) (variable l) ≡ true → Contains after (variable l)) → AreLone n (slice_set counts (rank_of l) x) next after
Lone-written n counts next back after l x a within more here = record {
  small = a.small;
  size = length-set counts (rank_of l) x ∙ a.size;
  first = a.first;
  last = a.last;
  within = within;
  told = λ v low high e. elim (cases_Bool (v == variable l)) [
    | inl s ↦
        let same : v ≡ variable l = eqb-true v (variable l) s in
        rw same (here (omega (arith, high, same)) (ap (is_lone_variable (slice_set counts (rank_of l) x)) (sym same) ∙ e))
    | inr s ↦ more v (a.told v low high (sym (lone-apart counts l x v (eqb-false v (variable l) s)) ∙ e))
  ];
}

-- a literal that occurs still
pub Lone-stays : (n : ℕ) (counts : List ℕ) (next : ℕ) (back : List ℕ) (l : ℤ) (x : ℕ) → AreLone n counts next back → is_literal n l ≡ true → x ≢ 0 → count_of counts l ≢ 0 → AreLone n (slice_set counts (rank_of l) x) next back
Lone-stays n counts next back l x a lit e h =
    let same : is_lone_variable (slice_set counts (rank_of l) x) (variable l) ≡ is_lone_variable counts (variable l) =
    lone-by_counts (slice_set counts (rank_of l) x) l x (count_of counts (complement l)) (count-written n counts l x a.size lit) (count-across n counts l x lit)
    ∙ stays_by_counts (count_of counts l) x (count_of counts (complement l)) h e
    ∙ sym (lone-by_counts counts l (count_of counts l) (count_of counts (complement l)) refl refl) in
    Lone-written n counts next back back l x a a.within (λ v m. m) (λ low t. a.told (variable l) (literal_bounds n l lit).0 low (sym same ∙ t))

-- a literal that occurs no more, and no more does its complement
pub Lone-gone : (n : ℕ) (counts : List ℕ) (next : ℕ) (back : List ℕ) (l : ℤ) (x : ℕ) → AreLone n counts next back → is_literal n l ≡ true → x ≡ 0 → count_of counts (complement l) ≡ 0 → AreLone n (slice_set counts (rank_of l) x) next back
Lone-gone n counts next back l x a lit e h =
    let none : is_lone_variable (slice_set counts (rank_of l) x) (variable l) ≡ false =
    lone-by_counts (slice_set counts (rank_of l) x) l 0 (count_of counts (complement l)) (count-written n counts l x a.size lit ∙ e) (count-across n counts l x lit)
    ∙ out_by_counts (count_of counts (complement l)) h in
    Lone-written n counts next back back l x a a.within (λ v m. m) (λ low t. absurd (let f : ⊥ = cc (none, t) in f))

-- a literal whose variable was not passed
pub Lone-ahead : (n : ℕ) (counts : List ℕ) (next : ℕ) (back : List ℕ) (l : ℤ) (x : ℕ) → AreLone n counts next back → next ≤ variable l → AreLone n (slice_set counts (rank_of l) x) next back
Lone-ahead n counts next back l x a h = Lone-written n counts next back back l x a a.within (λ v m. m) (λ low t. absurd (omega (arith, low, h)))

-- an element of a list with one more
one_of : (x : ℕ) (xs : List ℕ) (v : ℕ) → Contains (x ∷ xs) v → (v ≡ x) ⊎ Contains xs v
one_of x xs v h = elim (Contains-append_cases (x ∷ []) xs v h) [ inl (k, lt, is) ↦ inl (sym is ∙ ap (λ j. get_or (x ∷ []) j v) (let z : k ≡ 0 = omega (arith, lt) in z)) | inr m ↦ inr m ]

-- a literal whose variable was passed and is taken in
pub Lone-back : (n : ℕ) (counts : List ℕ) (next : ℕ) (back after : List ℕ) (l : ℤ) (x : ℕ) → AreLone n counts next back → is_literal n l ≡ true → variable l < next → IsPermutation (variable l ∷ back) after → AreLone n (slice_set counts (rank_of l) x) next after
Lone-back n counts next back after l x a lit low p =
    let within : (v : ℕ) → Contains after v → (0 < v) × (v < next) = λ v m. elim (one_of (variable l) back v (Contains-permutation _ _ v (IsPermutation-sym _ _ p) m)) [
      | inl same ↦ (omega (arith, same, (literal_bounds n l lit).0), omega (arith, same, low))
      | inr m ↦ a.within v m
    ] in
    Lone-written n counts next back after l x a within (λ v m. Contains-permutation _ _ v p (Contains-append_right (variable l ∷ []) back v m)) (λ _ _. Contains-permutation _ _ (variable l) p (0, omega arith, refl))

-- ---- the least one
-- two elements that fail the test are passed over
find-pass : {X : Type 0} (test : X → Bool) (x y : X) (rest : List X) → test x ≡ false → test y ≡ false → find test (x ∷ y ∷ rest) ≡ find test rest
find-pass test x y rest p q = rw (p, q) refl

-- what is found among the first two is found
find-here : {X : Type 0} (test : X → Bool) (x y z : X) (rest : List X) → find test (x ∷ y ∷ []) ≡ Some z → find test (x ∷ y ∷ rest) ≡ Some z
find-here test x y z rest h = elim (cases_Bool (test x)) [
  | inl p ↦ rw p (rw p at h)
  | inr p ↦ elim (cases_Bool (test y)) [ inl q ↦ rw (p, q) (rw (p, q) at h) | inr q ↦ absurd (let f : ⊥ = cc (rw (p, q) at h) in f) ]
]

-- a variable whose literals are not found is not lone
pub not_found : (counts : List ℕ) (v : ℕ) → lone_of counts v ≡ None → is_lone_variable counts v ≡ false
not_found counts v h = elim (cases_Bool (is_lone counts (pos v))) [
  | inl p ↦ absurd (let f : ⊥ = cc (rw p at h) in f)
  | inr p ↦ elim (cases_Bool (is_lone counts (neg_ℤ (pos v)))) [ inl q ↦ absurd (let f : ⊥ = cc (rw (p, q) at h) in f) | inr q ↦ rw (p, q) refl ]
]

-- both literals of each of some numbers
abbrev both_signs : List ℕ → List ℤ
both_signs = flat_map (λ v. pos v ∷ neg_ℤ (pos v) ∷ [])

-- where no variable is lone, no literal is found
find-none : (counts : List ℕ) (m a : ℕ) → ((v : ℕ) → a ≤ v → v < a + m → is_lone_variable counts v ≡ false) → find (is_lone counts) (both_signs (range_with_len a m)) ≡ None
find-none counts zero a h = refl
find-none counts (suc m) a h =
    let p = or_false _ _ (h a (omega arith) (omega arith)) in
    find-pass (is_lone counts) (pos a) (neg_ℤ (pos a)) (both_signs (range_with_len (a + 1) m)) p.0 p.1
    ∙ find-none counts m (a + 1) (λ v low high. h v (omega arith) (omega arith))

-- the literal of the first lone variable is found
find-first : (counts : List ℕ) (m a v : ℕ) (l : ℤ) → a ≤ v → v < a + m → ((u : ℕ) → a ≤ u → u < v → is_lone_variable counts u ≡ false) → lone_of counts v ≡ Some l → find (is_lone counts) (both_signs (range_with_len a m)) ≡ Some l
find-first counts zero a v l low high h e = absurd (omega arith)
find-first counts (suc m) a v l low high h e = elim (le_cases a v low) [
  | inl same ↦ find-here (is_lone counts) (pos a) (neg_ℤ (pos a)) l (both_signs (range_with_len (a + 1) m)) (ap (lone_of counts) same ∙ e)
  | inr below ↦
      let p = or_false _ _ (h a (omega arith) below) in
      find-pass (is_lone counts) (pos a) (neg_ℤ (pos a)) (both_signs (range_with_len (a + 1) m)) p.0 p.1
      ∙ find-first counts m (a + 1) v l (omega arith) (omega arith) (λ u from to. h u (omega arith) to) e
]
  where
    le_cases : (a v : ℕ) → a ≤ v → (a ≡ v) ⊎ (a < v)
    le_cases a v h = elim (cases_Bool (nat_lt a v)) [ inl t ↦ inr (grind (arith, nat_tests)) | inr f ↦ inl (grind (arith, nat_tests)) ]

-- there is nothing in an empty list
none_in : (xs : List ℕ) (v : ℕ) → xs ≡ [] → Contains xs v → ⊥
none_in xs v e m = omega (arith, m.1, ap length e)

-- some variables that are still known
pub Lone-still : (n : ℕ) (counts : List ℕ) (next : ℕ) (back after : List ℕ) → AreLone n counts next back → AreStill counts back after → AreLone n counts next after
Lone-still n counts next back after a s = record {
  small = a.small;
  size = a.size;
  first = a.first;
  last = a.last;
  within = λ v m. a.within v (s.among v m);
  told = λ v low high e. s.kept v (a.told v low high e) e;
}

-- the least of those that were passed
pub Lone-first : (n : ℕ) (counts : List ℕ) (next : ℕ) (back : List ℕ) (l : ℤ) → AreLone n counts next back → IsFirstLone counts back (Some l) → find (is_lone counts) (literals_to n) ≡ Some l
Lone-first n counts next back l a (v, least, is) =
    let b = a.within v least.0 in
    find-first counts n 1 v l b.0 (omega (arith, b.1, a.last)) (λ u from to. fails (is_lone_variable counts u) (λ e. let not_less : v ≤ u = least.1 u (a.told u from (omega (arith, to, b.1)) e) in omega (arith, to, not_less))) is

-- where none was passed, none is below the next one
passed : (n : ℕ) (counts : List ℕ) (next later : ℕ) (back : List ℕ) → AreLone n counts next back → IsFirstLone counts back None → ((v : ℕ) → next ≤ v → v < later → is_lone_variable counts v ≡ false) → (u : ℕ) → 0 < u → u < later → is_lone_variable counts u ≡ false
passed n counts next later back a none h u low high = elim (cases_Bool (nat_lt u next)) [
  | inl t ↦ fails (is_lone_variable counts u) (λ e. none_in back u none (a.told u low (below u next t) e))
  | inr t ↦ h u (beyond u next t) high
]
  where
    below : (u next : ℕ) → nat_lt u next ≡ true → u < next
    below u next t = grind (arith, nat_tests)

    beyond : (u next : ℕ) → nat_lt u next ≡ false → next ≤ u
    beyond u next t = grind (arith, nat_tests)

-- where it stops there is the first lone one, or none is left
pub Lone-next : (n : ℕ) (counts : List ℕ) (next later : ℕ) (back : List ℕ) (r : Option ℤ) → AreLone n counts next back → IsFirstLone counts back None → next ≤ later → ((v : ℕ) → next ≤ v → v < later → is_lone_variable counts v ≡ false)
    → IfSome r (λ l. (later ≤ n) × (lone_of counts later ≡ Some l)) → IfNone r (later ≡ n + 1) → r ≡ find (is_lone counts) (literals_to n)
Lone-next n counts next later back (Some l) a none on h some _ = sym (find-first counts n 1 later l (omega (arith, a.first, on)) (omega (arith, some.0)) (λ u from to. passed n counts next later back a none h u from to) some.1)
Lone-next n counts next later back None a none on h _ last = sym (find-none counts n 1 (λ v low high. passed n counts next later back a none h v low (omega (arith, high, last))))

-- ---- what is dropped

-- one more that is not lone
pub Still-less : (counts before now after : List ℕ) (x : ℕ) → AreStill counts before now → lone_of counts x ≡ None → IsPermutation now (x ∷ after) → AreStill counts before after
Still-less counts before now after x s none p = record {
  kept = λ v m e. elim (one_of x after v (Contains-permutation _ _ v p (s.kept v m e))) [
    | inl same ↦ absurd (let f : ⊥ = cc (sym e ∙ ap (is_lone_variable counts) same ∙ not_found counts x none) in f)
    | inr left ↦ left
  ];
  among = λ v m. s.among v (Contains-permutation _ _ v (IsPermutation-sym _ _ p) (Contains-append_right (x ∷ []) after v m));
}

-- ---- reads
-- a count that is read at the rank of a literal
pub count-at : (n : ℕ) (counts : List ℕ) (l k : ℤ) (x : ℕ) → length counts ≡ 2 * n + 2 → is_literal n l ≡ true → k ≡ l → x ≡ get_or counts (rank_of k) x → x ≡ count_of counts l
count-at n counts l k x size lit e read =
    let within : rank_of l < length counts = omega (arith, rank_small n l lit) in
    read ∙ ap (λ (z : ℤ). get_or counts (rank_of z) x) e ∙ get_or_default_zero counts (rank_of l) x within
