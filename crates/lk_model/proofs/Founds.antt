-- What is found in lists, and what is not.
use Rattle.std.proofs.Common.{◌≡◌, ℕ, zero, suc, ◌+◌, ◌<◌, ◌≤◌, ◌∙◌, Bool, true, false, cond, ◌||◌, List, [], ◌∷◌, length, map, zip, take, get_or, refl, sym, ap, subst, arith, ℤ, Option, Some, None, unwrap_or, inl, inr}
use Rattle.std.specs.Prelude.{find, filter, ◌==◌, nat_le}
use Rattle.std.specs.List.{list_any, list_all, range_with_len}
use Rattle.std.specs.Option.{option_map, option_map_or}
use Rattle.std.specs.Ordering.{int_eq}
use Rattle.std.proofs.lemmas.Bool.{cases_Bool, cases_eq, eq-eqb, eqb-true, leb-true, le-leb, lt-ltb, cond-true, cond-false}
use Rattle.std.proofs.lemmas.Bool.Decides.{Decides-int_eq}
use Rattle.std.proofs.lemmas.List.{take_more}
use Rattle.std.proofs.lemmas.List.Folds.{find-append}
use Rattle.lk_model.specs.Lists.{among, up_to, rises_within}
use Rattle.lk_model.specs.Formulas.Literal.{contains, is_same_list}
use Rattle.lk_model.specs.Formulas.Formula.{Cnf, clause_at, positions_of}
use Rattle.lk_model.specs.Formulas.Lean.{all_of}
use Rattle.lk_model.specs.declared.document.Pair.{Pair}
use Rattle.lk_model.proofs.Booleans.{and_true, or_true, or_false, or_left, or_right}

-- none is found where each fails
pub none_found : (t : ℕ → Bool) (ps : List ℕ) → ((p : ℕ) → among ps p ≡ true → t p ≡ false) → find t ps ≡ None
none_found t [] h = refl
none_found t (p ∷ ps) h =
    rw (h p (or_left (p == p) (among ps p) (eq-eqb p p refl))) (none_found t ps (λ q there. h q (or_right (p == q) (among ps q) there)))

-- where nothing is mapped, nothing is there
pub option_map-none : {X Y : Type 0} (f : X → Y) (o : Option X) → option_map f o ≡ None → o ≡ None
option_map-none f None e = refl
option_map-none f (Some x) e = absurd (let g : ⊥ = cc in g)

-- what is found where one passes
pub first_found : (t : ℕ → Bool) (ps : List ℕ) → list_any t ps ≡ true → (among ps (unwrap_or (find t ps) 0) ≡ true) × (t (unwrap_or (find t ps) 0) ≡ true)
first_found t [] e = absurd (let f : ⊥ = cc in f)
first_found t (p ∷ ps) e = elim (cases_Bool (t p)) [
  | inl y ↦
      let is : p ≡ unwrap_or (find t (p ∷ ps)) 0 = sym (ap (λ (o : Option ℕ). unwrap_or o 0) (cond-true (t p) (Some p) (find t ps) y)) in
      subst (λ (k : ℕ). (among (p ∷ ps) k ≡ true) × (t k ≡ true)) is (or_left (p == p) (among ps p) (eq-eqb p p refl), y)
  | inr y ↦
      let is : unwrap_or (find t ps) 0 ≡ unwrap_or (find t (p ∷ ps)) 0 = sym (ap (λ (o : Option ℕ). unwrap_or o 0) (cond-false (t p) (Some p) (find t ps) y)) in
      let rest = first_found t ps (sym (ap (λ (b : Bool). b || list_any t ps) y) ∙ e) in
      subst (λ (k : ℕ). (among (p ∷ ps) k ≡ true) × (t k ≡ true)) is (or_right (p == unwrap_or (find t ps) 0) (among ps (unwrap_or (find t ps) 0)) rest.0, rest.1)
]

-- what stands in a range
pub in_range : (a n k : ℕ) → among (range_with_len a n) k ≡ true → (a ≤ k) × (k < a + n)
in_range a zero k e = absurd (let f : ⊥ = cc in f)
in_range a (suc n) k e = elim (or_true (a == k) (among (range_with_len (a + 1) n) k) e) [
  | inl here ↦ (let same = eqb-true a k here in (omega (arith, same), omega (arith, same)))
  | inr later ↦ (let b = in_range (a + 1) n k later in (omega (arith, b.0), omega (arith, b.1)))
]

-- the numbers to n lie from 1 to n
pub up_to_bounds : (n k : ℕ) → among (up_to n) k ≡ true → (1 ≤ k) × (k ≤ n)
up_to_bounds n k e = let b = in_range 1 n k e in (b.0, omega (arith, b.1))

-- so the positions of a formula are positions
pub is_position : (F : Cnf) (p : ℕ) → among (positions_of F) p ≡ true → all_of F p ≡ true
is_position F p e = let b = up_to_bounds (length F.clauses) p e in rw (le-leb 1 p b.0, le-leb p (length F.clauses) b.1) refl

-- a list is the same as itself
pub same_itself : (c : List ℤ) → is_same_list c c ≡ true
same_itself [] = refl
same_itself (l ∷ c) = rw ((Decides-int_eq l l).1 refl, same_itself c) refl

-- the line of a position, where each has its own
pub line_of : {X : Type 0} (f : ℕ → X) (d : X) (ps : List ℕ) (p : ℕ) → among ps p ≡ true → option_map_or (λ (entry : ℕ × X). entry.1) (find (λ (entry : ℕ × X). entry.0 == p) (zip ps (map f ps))) d ≡ f p
line_of f d [] p e = absurd (let g : ⊥ = cc in g)
line_of f d (q ∷ ps) p e = elim (cases_Bool (q == p)) [
  | inl y ↦ rw y (ap f (eqb-true q p y))
  | inr y ↦ rw y (line_of f d ps p (sym (ap (λ (b : Bool). b || among ps p) y) ∙ e))
]

-- the pair of a variable, where each that is listed has its own
pub pair_found : (f : ℕ → Pair) (vs : List ℕ) (v : ℕ) → ((w : ℕ) → (f w).var ≡ w) → find (λ (q : Pair). q.var == v) (map f vs) ≡ cond (among vs v) (Some (f v)) None
pair_found f [] v h = refl
pair_found f (w ∷ vs) v h = elim (cases_Bool (w == v)) [
  | inl y ↦
      let is : ((f w).var == v) ≡ true = ap (λ (k : ℕ). k == v) (h w) ∙ y in
      rw (is, y) (ap (λ (k : ℕ). Some (f k)) (eqb-true w v y))
  | inr y ↦
      let is : ((f w).var == v) ≡ false = ap (λ (k : ℕ). k == v) (h w) ∙ y in
      rw (is, y) (pair_found f vs v h)
]

-- each passes where each number of the list does
pub all_pass : {X : Type 0} (t : X → Bool) (f : ℕ → X) (ps : List ℕ) → ((p : ℕ) → among ps p ≡ true → t (f p) ≡ true) → list_all t (map f ps) ≡ true
all_pass t f [] h = refl
all_pass t f (p ∷ ps) h =
    rw (h p (or_left (p == p) (among ps p) (eq-eqb p p refl)), all_pass t f ps (λ q there. h q (or_right (p == q) (among ps q) there))) refl

-- each literal of a list passes where each that stands there does
pub all_literals : (t : ℤ → Bool) (ls : List ℤ) → ((l : ℤ) → contains ls l ≡ true → t l ≡ true) → list_all t ls ≡ true
all_literals t [] h = refl
all_literals t (l ∷ ls) h =
    rw (h l (or_left (int_eq l l) (contains ls l) ((Decides-int_eq l l).1 refl)), all_literals t ls (λ k there. h k (or_right (int_eq k l) (contains ls k) there))) refl

-- no clause passes where none at a position does
pub no_clause : (t : List ℤ → Bool) (cs : List (List ℤ)) → ((k : ℕ) → k < length cs → t (get_or cs k []) ≡ false) → list_any t cs ≡ false
no_clause t [] h = refl
no_clause t (c ∷ cs) h =
    rw (h 0 (omega arith), no_clause t cs (λ k lt. h (suc k) (omega (arith, lt)))) refl

-- filtered numbers of a range rise
rising : (low high a n : ℕ) (t : ℕ → Bool) → low < a → a + n ≤ high + 1 → rises_within low high (filter t (range_with_len a n)) ≡ true
rising low high a zero t above within = refl
rising low high a (suc n) t above within = elim (cases_Bool (t a)) [
  | inl y ↦
      let rest = rising a high (a + 1) n t (omega arith) (omega (arith, within)) in
      rw (y, lt-ltb low a above, le-leb a high (omega (arith, within)), rest) refl
  | inr y ↦ rw y (rising low high (a + 1) n t (omega (arith, above)) (omega (arith, within)))
]

pub filtered_rise : (n : ℕ) (t : ℕ → Bool) → rises_within 0 n (filter t (up_to n)) ≡ true
filtered_rise n t = rising 0 n 1 n t (omega arith) (omega arith)

-- none among one more
pub find-none_more : {X : Type 0} (test : X → Bool) (xs : List X) (i : ℕ) (d : X) → i < length xs → find test (take i xs) ≡ None → test (get_or xs i d) ≡ false → find test (take (i + 1) xs) ≡ None
find-none_more test xs i d lt none e = ap (find test) (take_more xs i d lt) ∙ find-append test (take i xs) (get_or xs i d ∷ []) ∙ rw (none, e) refl

-- the first, after some that fail
pub find-here : {X : Type 0} (test : X → Bool) (xs : List X) (i : ℕ) (d : X) → i < length xs → find test (take i xs) ≡ None → test (get_or xs i d) ≡ true → Some (get_or xs i d) ≡ find test xs
find-here test [] i d lt none e = absurd (omega (arith, lt))
find-here test (x ∷ xs) zero d lt none e = rw e refl
find-here test (x ∷ xs) (suc i) d lt none e = elim (cases_Bool (test x)) [
  | inl p ↦ absurd (cc (sym (cond-true (test x) (Some x) (find test (take i xs)) p) ∙ none))
  | inr p ↦ rw p (find-here test xs i d (omega (arith, lt)) (sym (cond-false (test x) (Some x) (find test (take i xs)) p) ∙ none) e)
]

-- a test that finds none in a range holds at no number of it
pub none_between : (t : ℕ → Bool) (a n p : ℕ) → find t (range_with_len a n) ≡ None → a ≤ p → p < a + n → t p ≡ false
none_between t a zero p none low high = absurd (omega (arith, low, high))
none_between t a (suc n) p none low high = elim (cases_Bool (t a)) [
  | inl y ↦ absurd (let f : ⊥ = cc (sym (cond-true (t a) (Some a) (find t (range_with_len (a + 1) n)) y) ∙ none) in f)
  | inr y ↦ elim (cases_eq p a) [
    | inl same ↦ cc (same, y)
    | inr other ↦ none_between t (a + 1) n p (sym (cond-false (t a) (Some a) (find t (range_with_len (a + 1) n)) y) ∙ none) (omega (arith, low, other)) (omega (arith, high))
  ]
]

-- so at none of the numbers from 1 to n
pub none_to : (t : ℕ → Bool) (n p : ℕ) → find t (up_to n) ≡ None → 1 ≤ p → p ≤ n → t p ≡ false
none_to t n p none low high = none_between t 1 n p none low (omega (arith, high))

-- and at no position of the formula
pub none_at : (t : ℕ → Bool) (F : Cnf) (p : ℕ) → find t (positions_of F) ≡ None → all_of F p ≡ true → t p ≡ false
none_at t F p none within =
    let b = and_true _ _ within in
    none_to t (length F.clauses) p none (leb-true 1 p b.0) (leb-true p (length F.clauses) b.1)

-- no clause at a position passes where none of the clauses does
pub none_clause : (t : List ℤ → Bool) (F : Cnf) (p : ℕ) → list_any t F.clauses ≡ false → all_of F p ≡ true → t (clause_at F p) ≡ false
none_clause t F zero none within = absurd (let f : ⊥ = cc in f)
none_clause t F (suc k) none within =
    let b = and_true (nat_le 1 (suc k)) (nat_le (suc k) (length F.clauses)) within in
    let inside : suc k ≤ length F.clauses = leb-true (suc k) (length F.clauses) b.1 in
    at_index F.clauses k none (omega (arith, inside))
  where
    at_index : (cs : List (List ℤ)) (i : ℕ) → list_any t cs ≡ false → i < length cs → t (get_or cs i []) ≡ false
    at_index [] i none lt = absurd (omega (arith, lt))
    at_index (c ∷ cs) zero none lt = (or_false (t c) (list_any t cs) none).0
    at_index (c ∷ cs) (suc i) none lt = at_index cs i (or_false (t c) (list_any t cs) none).1 (omega (arith, lt))
