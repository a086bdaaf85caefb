-- Places in a heap.
use Rattle.std.proofs.Common.{◌≡◌, ◌∙◌, ℕ, ◌<◌, ◌≤◌, ◌==◌, ◌||◌, ◌&&◌, Bool, true, false, not, List, [], ◌∷◌, Option, Some, None, IfSome, IfNone, length, get_or, refl, sym, ap, subst, arith, ◌⊎◌, inl, inr}
use Rattle.std.specs.List.Sorted.{IsPermutation}
use Rattle.std.specs.BinaryHeap.{IsHeap, IsUpperBound}
use Rattle.std.specs.Ordering.{nat_cmp, is_lt}
use Rattle.std.proofs.lemmas.Bool.{cases_lt, eqb-true, eq-eqb, lt-ltb, false_from_ne_true}
use Rattle.std.proofs.lemmas.List.Sorted.{list_any-IsPermutation, length_permutation}
use Rattle.lk_model.specs.Lists.{among}
use Rattle.lk_model.proofs.Booleans.{or_true, or_left}
use Rattle.unit_refutations.specs.Chains.{IsGreatest, IsPopped}

-- what no place of some is above
pub below_bound : (x : ℕ) (ps : List ℕ) (p : ℕ) → IsUpperBound nat_cmp x ps → among ps p ≡ true → p ≤ x
below_bound x [] p h e = absurd (let f : ⊥ = cc in f)
below_bound x (q ∷ ps) p h e = elim (or_true (q == p) (among ps p) e) [
  | inl here ↦ (let same = eqb-true q p here in let low = not_above (cases_lt x q) h.0 in omega (arith, same, low))
  | inr later ↦ below_bound x ps p h.1 later
]
  where
    not_above : (x < q) ⊎ (q ≤ x) → is_lt (nat_cmp x q) ≡ false → q ≤ x
    not_above (inl lt) f = absurd (let g : is_lt (nat_cmp x q) ≡ true = rw (lt-ltb x q lt) refl in let z : ⊥ = cc in z)
    not_above (inr le) f = le

pub popped : (before : List ℕ) (x : ℕ) (after : List ℕ) → IsPermutation before (x ∷ after) → IsUpperBound nat_cmp x after → IsPopped before x after
popped before x after same most = record {
  others = λ p. list_any-IsPermutation (λ k. k == p) before (x ∷ after) same;
  most = λ p e. below_bound x after p most e;
  fewer = let e = length_permutation before (x ∷ after) same in omega (arith, e);
}

-- where the greatest place is not this one, all are below it
pub gone : (now : List ℕ) (last : ℕ) (o : Option ℕ) → IfNone o (now ≡ []) → IfSome o (IsGreatest now) → (o ≡ Some last → ⊥) → ((p : ℕ) → among now p ≡ true → p ≤ last)
    → (p : ℕ) → among now p ≡ true → p < last
gone now last None none some apart most p e = absurd (let f : among [] p ≡ true = subst (λ (ps : List ℕ). among ps p ≡ true) none e in let g : ⊥ = cc in g)
gone now last (Some x) none some apart most p e =
    let top = most x some.there in
    let below = some.most p e in
    elim (cases_lt x last) [
      | inl lt ↦ omega (arith, lt, below)
      | inr le ↦ absurd (apart (ap (λ (k : ℕ). Some k) (let same : x ≡ last = omega (arith, le, top) in same)))
    ]

-- and what stays are the others
pub others_stay : (before now : List ℕ) (last : ℕ) → ((p : ℕ) → (p == last) ≡ false → among now p ≡ among before p) → ((p : ℕ) → among now p ≡ true → p < last)
    → (p : ℕ) → among now p ≡ (among before p && not (p == last))
others_stay before now last same below p = at (p == last) refl
  where
    and_false : (b : Bool) → (b && false) ≡ false
    and_false true = refl
    and_false false = refl

    and_yes : (b : Bool) → (b && true) ≡ b
    and_yes true = refl
    and_yes false = refl

    at : (b : Bool) → (p == last) ≡ b → among now p ≡ (among before p && not b)
    at true e = false_from_ne_true (among now p) (λ there. (let lt = below p there in let is = eqb-true p last e in omega (arith, lt, is))) ∙ sym (and_false (among before p))
    at false e = same p e ∙ sym (and_yes (among before p))

-- one is taken out that is the last
pub one_out : (before now after : List ℕ) (last top : ℕ) → IsPopped now top after → top ≡ last → ((p : ℕ) → (p == last) ≡ false → among now p ≡ among before p)
    → (p : ℕ) → (p == last) ≡ false → among after p ≡ among before p
one_out before now after last top h is same p e = not_top (top == p) refl (h.others p) ∙ same p e
  where
    not_top : (b : Bool) → (top == p) ≡ b → among now p ≡ (top == p || among after p) → among after p ≡ among now p
    not_top true y o = absurd (let at = eqb-true top p y in let z : (p == last) ≡ true = eq-eqb p last (sym at ∙ is) in let f : ⊥ = cc in f)
    not_top false n o = sym (o ∙ ap (λ (b : Bool). b || among after p) n)

-- what a pop answers
pub pops : (heap before after : List ℕ) (o : Option ℕ) → heap ≡ before → IsHeap nat_cmp heap → IfSome o (λ x. IsPermutation heap (x ∷ after))
    → IfSome o (λ x. IsHeap nat_cmp heap → IsUpperBound nat_cmp x after) → IfSome o (λ top. IsPopped before top after)
pops heap before after None e h same most = tt
pops heap before after (Some x) e h same most = subst (λ (ps : List ℕ). IsPopped ps x after) e (popped heap x after same (most h))

-- a place of a heap that none is above
pub greatest : (heap now : List ℕ) (x : ℕ) → heap ≡ now → 0 < length heap → x ≡ get_or heap 0 x → IsUpperBound nat_cmp x heap → IsGreatest now x
greatest heap now x e some at most = subst (λ (ps : List ℕ). IsGreatest ps x) e (record { there = first heap some at; most = λ p there. below_bound x heap p most there })
  where
    first : (ps : List ℕ) → 0 < length ps → x ≡ get_or ps 0 x → among ps x ≡ true
    first [] some at = absurd (omega (arith, some))
    first (p ∷ ps) some at = or_left (p == x) (among ps x) (eq-eqb p x (sym at))
