-- Numbers that are placed row after row, from the last row to the first.
use Rattle.std.proofs.Common.{◌≡◌, ℕ, zero, suc, ◌+◌, ◌-◌, ◌<◌, ◌≤◌, ◌==◌, ◌⊎◌, inl, inr, true, false, cond, List, [], ◌∷◌, map, drop, set, length, get_or, replicate, ℤ, pos, refl, sym, ap, ◌∙◌, arith, drop-cons}
use Rattle.std.specs.List.{range_with_len, AllByRecursion}
use Rattle.std.proofs.Math.Nat.{eq-or-lt_of_le}
use Rattle.std.proofs.lemmas.Bool.{ne_eqb, eq-eqb}
use Rattle.std.proofs.lemmas.List.{drop_all}
use Rattle.lk_model.specs.Linear.Rows.{Row}
use Rattle.exact_pivot.specs.Placed.{placed_at, placed}

-- a number at a place that lies outside the range
pub keep_range : (f : ℕ → ℤ) (a n b : ℕ) (z : ℤ) → (b < a) ⊎ (a + n ≤ b) → map f (range_with_len a n) ≡ map (λ c. cond (b == c) z (f c)) (range_with_len a n)
keep_range f a zero b z h = refl
keep_range f a (suc n) b z h =
    let other : (b == a) ≡ false = ne_eqb b a (λ e. elim h [ inl l ↦ omega (arith, l, e) | inr m ↦ omega (arith, m, e) ]) in
    let rest = keep_range f (a + 1) n b z (elim h [ inl l ↦ inl (omega (arith, l)) | inr m ↦ inr (omega (arith, m)) ]) in
    rw other (ap (λ xs. f a ∷ xs) rest)

-- a number at one place in a range, and what the others keep
pub set_range : (f : ℕ → ℤ) (a n b : ℕ) (z : ℤ) → a ≤ b → b < a + n
    → set (map f (range_with_len a n)) (b - a) z ≡ map (λ c. cond (b == c) z (f c)) (range_with_len a n)
set_range f a zero b z h k = absurd (omega (arith, h, k))
set_range f a (suc n) b z h k = elim (eq-or-lt_of_le h) [
  | inl e ↦ (
      let here : (b == a) ≡ true = eq-eqb b a (sym e) in
      let none : b - a ≡ 0 = omega (arith, e) in
      rw (none, here) (ap (λ xs. z ∷ xs) (keep_range f (a + 1) n b z (inl (omega (arith, e))))))
  | inr l ↦ (
      let other : (b == a) ≡ false = ne_eqb b a (λ e. omega (arith, e, l)) in
      let more : b - a ≡ suc (b - (a + 1)) = omega (arith, l) in
      rw (more, other) (ap (λ xs. f a ∷ xs) (set_range f (a + 1) n b z (omega (arith, l)) (omega (arith, k)))))
]

-- a vector that is filled with a number
filled : (d : ℤ) (m : ℕ) (xs : List ℤ) → AllByRecursion (λ y. (y ≡ d) ⊎ (y ≡ d)) xs → length xs ≡ m → xs ≡ replicate m d
filled d zero [] h e = refl
filled d zero (x ∷ xs) h e = absurd (omega (arith, e))
filled d (suc m) [] h e = absurd (omega (arith, e))
filled d (suc m) (x ∷ xs) h e =
    let first : x ≡ d = elim h.0 [ inl p ↦ p | inr p ↦ p ] in
    let rest = filled d m xs h.1 (omega (arith, e)) in
    λ i. first i ∷ rest i

-- no row places a number
pub placed_none : (d : ℤ) (a m : ℕ) (zs : List ℤ) → replicate m d ≡ map (placed_at d [] zs) (range_with_len a m)
placed_none d a zero zs = refl
placed_none d a (suc m) zs = ap (λ xs. d ∷ xs) (placed_none d (a + 1) m zs)

-- before any row is reached from the end
pub placed_init : (d : ℤ) (m : ℕ) (rows : List Row) (zs numbers : List ℤ) → AllByRecursion (λ y. (y ≡ d) ⊎ (y ≡ d)) numbers → length numbers ≡ m
    → numbers ≡ placed d m (drop (length rows) rows) (drop (length rows) zs)
placed_init d m rows zs numbers all long =
    let none : drop (length rows) rows ≡ [] = drop_all (length rows) rows (omega arith) in
    rw none (filled d m numbers all long ∙ placed_none d 1 m (drop (length rows) zs))

-- a row places its number before those of the rows behind it
pub placed_row : (d : ℤ) (m : ℕ) (rows : List Row) (zs : List ℤ) (i : ℕ) (r : Row) → i < length rows → i < length zs
    → placed d m (drop i rows) (drop i zs) ≡ map (λ c. cond ((get_or rows i r).basic == c) (get_or zs i (pos 0)) (placed_at d (drop (i + 1) rows) (drop (i + 1) zs) c)) (range_with_len 1 m)
placed_row d m rows zs i r h k =
    let step : i + 1 ≡ suc i = omega arith in
    rw (step, drop-cons rows i r h, drop-cons zs i (pos 0) k) refl

-- a row whose basic column is a clause column writes its number there
pub placed_here : (d : ℤ) (m : ℕ) (rows : List Row) (zs numbers : List ℤ) (i j : ℕ) (r : Row) (b : ℕ) → i < length rows → i < length zs → i + 1 ≡ j
    → numbers ≡ placed d m (drop j rows) (drop j zs) → r ≡ get_or rows i r → b ≡ r.basic → 0 < b → b ≤ m
    → set numbers (b - 1) (get_or zs i (pos 0)) ≡ placed d m (drop i rows) (drop i zs)
placed_here d m rows zs numbers i j r b h k next e at g low high =
    let f : b ≡ (get_or rows i r).basic = g ∙ ap (λ (row : Row). row.basic) at in
    rw (e, ← next, f) (set_range (placed_at d (drop (i + 1) rows) (drop (i + 1) zs)) 1 m (get_or rows i r).basic (get_or zs i (pos 0)) (omega (arith, low, f)) (omega (arith, high, f))
    ∙ sym (placed_row d m rows zs i r h k))

-- a row whose basic column lies behind those places none
pub placed_past : (d : ℤ) (m : ℕ) (rows : List Row) (zs numbers : List ℤ) (i j : ℕ) (r : Row) (b : ℕ) → i < length rows → i < length zs → i + 1 ≡ j
    → numbers ≡ placed d m (drop j rows) (drop j zs) → r ≡ get_or rows i r → b ≡ r.basic → m < b
    → numbers ≡ placed d m (drop i rows) (drop i zs)
placed_past d m rows zs numbers i j r b h k next e at g high =
    let f : b ≡ (get_or rows i r).basic = g ∙ ap (λ (row : Row). row.basic) at in
    let before : numbers ≡ placed d m (drop (i + 1) rows) (drop (i + 1) zs) = rw next e in
    before ∙ keep_range (placed_at d (drop (i + 1) rows) (drop (i + 1) zs)) 1 m (get_or rows i r).basic (get_or zs i (pos 0)) (inr (omega (arith, high, f)))
    ∙ sym (placed_row d m rows zs i r h k)
