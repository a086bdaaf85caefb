-- Sums over the places of lists.
use Rattle.std.proofs.Common.{◌≡◌, ◌≢◌, ℕ, suc, ◌+◌, ◌-◌, ◌<◌, ◌≤◌, Bool, true, false, cond, ◌==◌, List, [], ◌∷◌, map, zip, filter, length, get_or, ℤ, pos, ◌+ℤ◌, ◌*ℤ◌, None, refl, sym, ap, ◌∙◌, subst, arith, inl, inr, eq-eqb}
use Rattle.std.specs.Prelude.{find}
use Rattle.std.specs.List.{range_with_len}
use Rattle.std.specs.Option.{option_map_or}
use Rattle.std.proofs.Math.IntN.{zero-*ℤ}
use Rattle.std.proofs.lemmas.Bool.{cases_Bool, eqb-true, ne_eqb}
use Rattle.std.proofs.lemmas.Int.{ints}
use Rattle.lk_model.specs.Lists.{up_to, sum_of, among}
use Rattle.lk_model.specs.Linear.Rows.{Row}
use Rattle.lk_model.proofs.Booleans.{or_left, or_right}
use Rattle.lk_model.proofs.Counting.{Differ, more, Differ-range, among-range}
use Rattle.lk_model.proofs.Keys.{key_missing}
use Rattle.linear_laws.proofs.Sums.{add_mul, sum_plus, sum_one}
use Rattle.exact_pivot.proofs.Starts.{range_same}

-- a sum over the numbered elements of a list, by their numbers
pub sum_numbered : {X : Type 0} (f : ℕ → X → ℤ) (xs : List X) (d : X) (a : ℕ)
    → sum_of (map (λ (e : ℕ × X). f e.0 e.1) (zip (range_with_len a (length xs)) xs)) ≡ sum_of (map (λ j. f j (get_or xs (j - a) d)) (range_with_len a (length xs)))
sum_numbered f [] d a = refl
sum_numbered f (x ∷ xs) d a =
    let here : f a x ≡ f a (get_or (x ∷ xs) (a - a) d) = ap (λ n. f a (get_or (x ∷ xs) n d)) (let zeroth : 0 ≡ a - a = omega arith in zeroth) in
    let later = sum_numbered f xs d (a + 1) ∙ range_same (λ j. f j (get_or xs (j - (a + 1)) d)) (λ j. f j (get_or (x ∷ xs) (j - a) d)) (a + 1) (length xs)
    (λ j g k. (let step : j - a ≡ suc (j - (a + 1)) = omega (arith, g) in rw step refl)) in
    λ i. here i +ℤ later i

-- a sum over what a filter keeps, where the other terms are 0
pub sum_filtered : {X : Type 0} (f : X → ℤ) (p : X → Bool) (xs : List X) → ((x : X) → p x ≡ false → f x ≡ pos 0) → sum_of (map f (filter p xs)) ≡ sum_of (map f xs)
sum_filtered f p [] e = refl
sum_filtered f p (x ∷ xs) e = elim (cases_Bool (p x)) [
  | inl y ↦ rw y (ap (λ z. f x +ℤ z) (sum_filtered f p xs e))
  | inr n ↦ rw n (sum_filtered f p xs e ∙ none_plus (sum_of (map f xs)) ∙ ap (λ z. z +ℤ sum_of (map f xs)) (sym (e x n)))
]
  where
    none_plus : (x : ℤ) → x ≡ pos 0 +ℤ x
    none_plus x = omega (arith, ints)

-- sums over a list of images
pub sum_images : {X Y : Type 0} (f : Y → ℤ) (g : X → Y) (xs : List X) → sum_of (map f (map g xs)) ≡ sum_of (map (λ x. f (g x)) xs)
sum_images f g [] = refl
sum_images f g (x ∷ xs) = ap (λ z. f (g x) +ℤ z) (sum_images f g xs)

-- NUMBERS AT BASIC COLUMNS

-- of numbers of rows that of the first row with this basic column, or another number
abbrev pub placed : (Row → ℤ) → ℤ → List Row → ℕ → ℤ
placed f d rows c = option_map_or f (find (λ (row : Row). row.basic == c) rows) d

-- one row more, with a basic column of its own
placed_more : (f : Row → ℤ) (row : Row) (rows : List Row) (c : ℕ) → among (map (λ (row : Row). row.basic) rows) row.basic ≡ false
    → placed f (pos 0) (row ∷ rows) c ≡ cond (row.basic == c) (f row) (pos 0) +ℤ placed f (pos 0) rows c
placed_more f row rows c out = elim (cases_Bool (row.basic == c)) [
  | inl y ↦
      (let same = eqb-true row.basic c y in
      let none : find (λ (row : Row). row.basic == c) rows ≡ None = key_missing (λ (row : Row). row.basic) rows c (subst (λ b. among (map (λ (row : Row). row.basic) rows) b ≡ false) same out) in
      rw (y, none) (plus_none (f row)))
  | inr n ↦ rw n (none_plus (placed f (pos 0) rows c))
]
  where
    plus_none : (x : ℤ) → x ≡ x +ℤ pos 0
    plus_none x = omega (arith, ints)

    none_plus : (x : ℤ) → x ≡ pos 0 +ℤ x
    none_plus x = omega (arith, ints)

-- Numbers that stand at the basic columns of rows sum against a line as the rows do.
pub sum_placed : (f : Row → ℤ) (g : ℕ → ℤ) (m : ℕ) (rows : List Row) → Differ (map (λ (row : Row). row.basic) rows)
    → ((b : ℕ) → among (map (λ (row : Row). row.basic) rows) b ≡ true → (0 < b) × (b ≤ m))
    → sum_of (map (λ c. placed f (pos 0) rows c *ℤ g c) (up_to m)) ≡ sum_of (map (λ (row : Row). f row *ℤ g row.basic) rows)
sum_placed f g m [] d within = all_none (up_to m)
  where
    all_none : (cs : List ℕ) → sum_of (map (λ c. pos 0 *ℤ g c) cs) ≡ pos 0
    all_none [] = refl
    all_none (c ∷ cs) = rw (zero-*ℤ (g c), all_none cs) refl
sum_placed f g m (row ∷ rows) (more _ _ out d) within =
    let b = within row.basic (or_left (row.basic == row.basic) (among (map (λ (row : Row). row.basic) rows) row.basic) (eq-eqb row.basic row.basic refl)) in
    let rest = sum_placed f g m rows d (λ c i. within c (or_right (row.basic == c) (among (map (λ (row : Row). row.basic) rows) c) i)) in
    range_same (λ c. placed f (pos 0) (row ∷ rows) c *ℤ g c) (λ c. here c +ℤ placed f (pos 0) rows c *ℤ g c) 1 m
    (λ c h k. ap (λ z. z *ℤ g c) (placed_more f row rows c out) ∙ add_mul (cond (row.basic == c) (f row) (pos 0)) (placed f (pos 0) rows c) (g c))
    ∙ sum_plus here (λ c. placed f (pos 0) rows c *ℤ g c) (up_to m)
    ∙ ap (λ z. z +ℤ sum_of (map (λ c. placed f (pos 0) rows c *ℤ g c) (up_to m)))
    (sum_one here (up_to m) row.basic (Differ-range 1 m) (among-range 1 m row.basic b.0 (omega (arith, b.1))) other ∙ itself)
    ∙ ap (λ z. f row *ℤ g row.basic +ℤ z) rest
  where
    here : ℕ → ℤ
    here c = cond (row.basic == c) (f row) (pos 0) *ℤ g c

    itself : here row.basic ≡ f row *ℤ g row.basic
    itself = rw (eq-eqb row.basic row.basic refl) refl

    other : (c : ℕ) → among (up_to m) c ≡ true → c ≢ row.basic → here c ≡ pos 0
    other c i n = rw (ne_eqb row.basic c (λ e. n (sym e))) (zero-*ℤ (g c))
