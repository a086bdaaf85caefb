-- The row that leaves: the least by quotient and basic column.
use Rattle.std.proofs.Common.{◌≡◌, ℕ, ◌+◌, ◌*◌, ◌<◌, ◌≤◌, ◌⊎◌, inl, inr, Bool, true, false, not, cond, ◌&&◌, ◌||◌, ltb, ℤ, pos, negsuc, ◌≤ℤ◌, int_lt, unsigned_abs, Option, Some, None, refl, sym, ◌∙◌, subst, arith}
use Rattle.std.proofs.Math.Nat.{eq-or-lt_of_le}
use Rattle.std.proofs.lemmas.Bool.{ltb-true, ltb-false, lt-ltb, le-ltb}
use Rattle.std.proofs.lemmas.Int.{ints}
use Rattle.std.specs.declared.cmp.Ordering.TheVariants.{Less, Equal, Greater}
use Rattle.std.specs.Ordering.{is_eq}
use Rattle.lk_model.specs.Linear.Rows.{TableauRows, entry, row_at, r_of, right_column}
use Rattle.lk_model.specs.Linear.Phases.{may_leave, leaves_before, leaving}
use Rattle.exact_pivot.specs.Best.{LeavesBelow, IsBest}
use Rattle.exact_pivot.proofs.Finds.{find_none, find_first, all_range, not_all_range}
use Rattle.exact_pivot.proofs.Orders.{Before, NotBefore, before_chain, before_asym}

-- right sides, also past the last row
abbrev pub HasRights : TableauRows → Type 0
HasRights t = (i : ℕ) → pos 0 ≤ℤ entry (row_at t i).entries (right_column t)

-- the test by products, of natural numbers
abbrev pub test : ℕ → ℕ → ℕ → ℕ → Bool
test m n d b = ltb m n || (is_eq (cond (ltb m n) Less (cond (ltb n m) Greater Equal)) && ltb d b)

tested : (m n d b : ℕ) (p q r : Bool) → ltb m n ≡ p → ltb n m ≡ q → ltb d b ≡ r → (p || (is_eq (cond p Less (cond q Greater Equal)) && r)) ≡ true → (m < n) ⊎ ((m ≡ n) × (d < b))
tested m n d b true q r e f g h = inl (ltb-true m n e)
tested m n d b false true r e f g h = cc
tested m n d b false false true e f g h =
    let low = ltb-false m n e in
    let high = ltb-false n m f in
    inr (omega (arith, low, high), ltb-true d b g)
tested m n d b false false false e f g h = cc

not_tested : (m n d b : ℕ) (p q r : Bool) → ltb m n ≡ p → ltb n m ≡ q → ltb d b ≡ r → (p || (is_eq (cond p Less (cond q Greater Equal)) && r)) ≡ false → (n < m) ⊎ ((m ≡ n) × (b ≤ d))
not_tested m n d b true q r e f g h = cc
not_tested m n d b false true r e f g h = inl (ltb-true n m f)
not_tested m n d b false false true e f g h = cc
not_tested m n d b false false false e f g h =
    let low = ltb-false m n e in
    let high = ltb-false n m f in
    inr (omega (arith, low, high), ltb-false d b g)

test_of : (m n d b : ℕ) → (m < n) ⊎ ((m ≡ n) × (d < b)) → test m n d b ≡ true
test_of m n d b (inl h) = rw (lt-ltb m n h) refl
test_of m n d b (inr (e, h)) = rw (le-ltb m n (omega arith), le-ltb n m (omega arith), lt-ltb d b h) refl

no_test_of : (m n d b : ℕ) → (n < m) ⊎ ((m ≡ n) × (b ≤ d)) → test m n d b ≡ false
no_test_of m n d b (inl h) = rw (le-ltb m n (omega arith), lt-ltb n m h) refl
no_test_of m n d b (inr (e, h)) = rw (le-ltb m n (omega arith), le-ltb n m (omega arith), le-ltb d b h) refl

-- the right side and the entry of a row that may leave
pub record Keys (t : TableauRows) (k i : ℕ) : Type 0 where
  right : ℕ
  here : ℕ
  right_is : entry (row_at t i).entries (right_column t) ≡ pos right
  here_is : entry (row_at t i).entries k ≡ pos here
  some : 0 < here

natural : (z : ℤ) → pos 0 ≤ℤ z → z ≡ pos (unsigned_abs z)
natural (pos n) h = refl
natural (negsuc n) h = absurd (omega (arith, ints, h))

positive : (z : ℤ) → int_lt (pos 0) z ≡ true → (n : ℕ) × (z ≡ pos n) × (0 < n)
positive (pos n) h = (n, refl, ltb-true 0 n h)
positive (negsuc n) h = cc

pub keys : (t : TableauRows) (k i : ℕ) → HasRights t → may_leave t k i ≡ true → Keys t k i
keys t k i rights may =
    let above = positive (entry (row_at t i).entries k) may in
    record {
      right = unsigned_abs (entry (row_at t i).entries (right_column t));
      here = above.0;
      right_is = natural (entry (row_at t i).entries (right_column t)) (rights i);
      here_is = above.1;
      some = above.2;
    }

leaves_test : (t : TableauRows) (k i j : ℕ) (x : Keys t k i) (y : Keys t k j)
    → leaves_before t k i j ≡ test (y.right * x.here) (x.right * y.here) (row_at t j).basic (row_at t i).basic
leaves_test t k i j x y = rw (y.right_is, x.here_is, x.right_is, y.here_is) refl

leaves_true : (t : TableauRows) (k i j : ℕ) (x : Keys t k i) (y : Keys t k j) → leaves_before t k i j ≡ true
    → Before x.right x.here (row_at t i).basic y.right y.here (row_at t j).basic
leaves_true t k i j x y e = tested _ _ _ _ _ _ _ refl refl refl (sym (leaves_test t k i j x y) ∙ e)

leaves_false : (t : TableauRows) (k i j : ℕ) (x : Keys t k i) (y : Keys t k j) → leaves_before t k i j ≡ false
    → NotBefore x.right x.here (row_at t i).basic y.right y.here (row_at t j).basic
leaves_false t k i j x y e = not_tested _ _ _ _ _ _ _ refl refl refl (sym (leaves_test t k i j x y) ∙ e)

-- row i leaves before row b, and row j does not: so row i leaves before row j
leaves_chain : (t : TableauRows) (k b i j : ℕ) → Keys t k b → Keys t k i → Keys t k j → leaves_before t k b i ≡ true → leaves_before t k b j ≡ false → leaves_before t k j i ≡ true
leaves_chain t k b i j x y z e f =
    leaves_test t k j i z y ∙ test_of _ _ _ _ (before_chain x.right x.here (row_at t b).basic y.right y.here (row_at t i).basic z.right z.here (row_at t j).basic x.some y.some z.some (leaves_true t k b i x y e) (leaves_false t k b j x z f))

leaves_asym : (t : TableauRows) (k i j : ℕ) → Keys t k i → Keys t k j → leaves_before t k j i ≡ true → leaves_before t k i j ≡ false
leaves_asym t k i j x y e =
    leaves_test t k i j x y ∙ no_test_of _ _ _ _ (before_asym y.right y.here (row_at t j).basic x.right x.here (row_at t i).basic (leaves_true t k j i y x e))

pub leaves_self : (t : TableauRows) (k i : ℕ) → Keys t k i → (b : Bool) → leaves_before t k i i ≡ b → leaves_before t k i i ≡ false
leaves_self t k i x true e = leaves_asym t k i i x x e
leaves_self t k i x false e = e

pub new_best : (t : TableauRows) (k i b : ℕ) → HasRights t → 0 < i → may_leave t k i ≡ true → LeavesBelow t k i b → leaves_before t k b i ≡ true
    → LeavesBelow t k (i + 1) i
new_best t k i b rights h may best e =
    let x = keys t k b rights best.may in
    let y = keys t k i rights may in
    let over : (j : ℕ) → 0 < j → j < i → may_leave t k j ≡ true → leaves_before t k j i ≡ true =
    λ j g l m. leaves_chain t k b i j x y (keys t k j rights m) e (best.first j g l m) in
    record {
      least = h;
      below = omega arith;
      may = may;
      first = λ j g l m. elim (eq-or-lt_of_le (let n : j ≤ i = omega arith in n)) [
        | inl same ↦ subst (λ n. leaves_before t k i n ≡ false) (sym same) (leaves_self t k i y (leaves_before t k i i) refl)
        | inr less ↦ leaves_asym t k i j y (keys t k j rights m) (over j g less m)
      ];
      over = over;
    }

neither : (m l : Bool) → (m ≡ true → l ≡ false) → not (m && l) ≡ true
neither true l f = rw (f refl) refl
neither false l f = refl

not_first : (m a : Bool) → (m ≡ true → a ≡ false) → m && a ≡ false
not_first true a f = f refl
not_first false a f = refl

pub found : (t : TableauRows) (k : ℕ) (best : Option ℕ) → IsBest t k (r_of t + 1) best → best ≡ leaving t k
found t k None none = sym (find_none _ 1 (r_of t) (λ j h l. not_first (may_leave t k j) _ (λ m. (let n = none j (omega arith) (omega arith) in cc))))
found t k (Some b) best = sym (find_first _ 1 (r_of t) b best.least (omega (arith, best.below))
    (rw best.may (all_range _ 1 (r_of t) (λ j h l. neither (may_leave t k j) (leaves_before t k b j) (best.first j (omega arith) (omega arith)))))
    (λ j h l. not_first (may_leave t k j) _ (λ m. not_all_range _ 1 (r_of t) b best.least (omega (arith, best.below)) (let e = best.over j (omega arith) l m in rw (best.may, e) refl))))
