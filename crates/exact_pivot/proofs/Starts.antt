-- What holds of the starting rows.
use Rattle.std.proofs.Common.{◌≡◌, ◌≢◌, inl, ℕ, zero, suc, ◌+◌, ◌-◌, ◌<◌, ◌≤◌, ltb, Bool, true, false, cond, ◌==◌, List, [], ◌∷◌, ◌++◌, map, zip, replicate, length, get_or, ℤ, pos, negsuc, neg_ℤ, ◌+ℤ◌, ◌-ℤ◌, ◌*ℤ◌, ◌<ℤ◌, ◌≤ℤ◌, int_lt, refl, sym, ap, ◌∙◌, subst, eq-eqb, arith}
use Rattle.std.proofs.Math.IntN.{zero-*ℤ}
use Rattle.std.proofs.lemmas.Bool.{ne_eqb, eqb-true, ltb-true, ltb-false, both_ways}
use Rattle.std.proofs.lemmas.Int.{ints}
use Rattle.std.proofs.lemmas.List.{get_or-map, get_or-replicate, length-map, length-append, length-replicate}
use Rattle.std.proofs.lemmas.List.FromFn.{length-map-range_with_len, get_or-map-range_with_len}
use Rattle.std.specs.List.{range_with_len}
use Rattle.lk_model.specs.Lists.{up_to, sum_of}
use Rattle.lk_model.specs.Formulas.Formula.{Cnf, clause_at, variables_at}
use Rattle.lk_model.specs.Formulas.Balance.{incidence}
use Rattle.lk_model.specs.Linear.Rows.{Row, entry, lack, sign_of, start_row, start_rows, less_column, start_cost, start_of}
use Rattle.lk_model.proofs.Counting.{Differ, Differ-filter, Differ-range, same_place}
use Rattle.exact_pivot.specs.Reached.{Columns, ReachedRows}
use Rattle.exact_pivot.proofs.Wholes.{one_mul}
use Rattle.exact_pivot.proofs.Artificials.{artificials, in_first, in_middle, in_last, art_first, art_middle, art_last}
use Rattle.exact_pivot.proofs.Solutions.{sum_none, sum_one}

-- A LIST BY ITS PLACES

-- an image of a numbered element, by its place
pub zip_at : {X : Type 0} (f : ℕ × ℕ → X) (vs : List ℕ) (a i : ℕ) (d : X) → i < length vs → get_or (map f (zip (range_with_len a (length vs)) vs)) i d ≡ f (a + i, get_or vs i 0)
zip_at f [] a i d h = absurd (omega (arith, h))
zip_at f (v ∷ vs) a zero d h = ap (λ n. f (n, v)) (let same : a ≡ a + 0 = omega arith in same)
zip_at f (v ∷ vs) a (suc i) d h = zip_at f vs (a + 1) i d (omega (arith, h)) ∙ ap (λ n. f (n, get_or vs i 0)) (let same : a + 1 + i ≡ a + suc i = omega arith in same)

pub zip_length : {X : Type 0} (f : ℕ × ℕ → X) (vs : List ℕ) (a : ℕ) → length (map f (zip (range_with_len a (length vs)) vs)) ≡ length vs
zip_length f [] a = refl
zip_length f (v ∷ vs) a = ap suc (zip_length f vs (a + 1))

-- sums over a range of the same terms
pub range_same : (f g : ℕ → ℤ) (a n : ℕ) → ((j : ℕ) → a ≤ j → j < a + n → f j ≡ g j) → sum_of (map f (range_with_len a n)) ≡ sum_of (map g (range_with_len a n))
range_same f g a zero e = refl
range_same f g a (suc n) e = λ i. e a (omega arith) (omega arith) i +ℤ range_same f g (a + 1) n (λ j h k. e j (omega (arith, h)) (omega (arith, k))) i

-- a sum over a list, by its places
pub sum_places : {X : Type 0} (h : X → ℤ) (xs : List X) (d : X) (a : ℕ) → sum_of (map (λ j. h (get_or xs (j - a) d)) (range_with_len a (length xs))) ≡ sum_of (map h xs)
sum_places h [] d a = refl
sum_places h (x ∷ xs) d a =
    let here : h (get_or (x ∷ xs) (a - a) d) ≡ h x = ap (λ n. h (get_or (x ∷ xs) n d)) (let zeroth : a - a ≡ 0 = omega arith in zeroth) in
    let later = range_same (λ j. h (get_or (x ∷ xs) (j - a) d)) (λ j. h (get_or xs (j - (a + 1)) d)) (a + 1) (length xs)
    (λ j g k. (let step : j - a ≡ suc (j - (a + 1)) = omega (arith, g) in rw step refl)) ∙ sum_places h xs d (a + 1) in
    λ i. here i +ℤ later i

sum_less : (f : ℕ → ℤ) (a n : ℕ) → sum_of (map (λ j. negsuc 0 *ℤ f j) (range_with_len a n)) ≡ neg_ℤ (sum_of (map f (range_with_len a n)))
sum_less f a zero = refl
sum_less f a (suc n) = added (f a) _ _ (sum_less f (a + 1) n)
  where
    added : (x y z : ℤ) → y ≡ neg_ℤ z → negsuc 0 *ℤ x +ℤ y ≡ neg_ℤ (x +ℤ z)
    added x y z e = omega (arith, ints, e)

-- a number times its sign
signed_least : (x : ℤ) → pos 0 ≤ℤ (cond (int_lt x (pos 0)) (negsuc 0) (pos 1) *ℤ x)
signed_least x = by_test (int_lt x (pos 0)) refl
  where
    by_test : (b : Bool) → int_lt x (pos 0) ≡ b → pos 0 ≤ℤ (cond b (negsuc 0) (pos 1) *ℤ x)
    by_test true e = omega (arith, ints, e)
    by_test false e = omega (arith, ints, e)

module _ (F : Cnf) (S : List ℕ) where
  abbrev vs : List ℕ
  vs = variables_at F S

  abbrev m : ℕ
  m = length S

  abbrev n : ℕ
  n = length (variables_at F S)

  abbrev at : ℕ → Row
  at i = get_or (start_rows F S) (i - 1) (record { entries = []; basic = 0 })

  abbrev var_at : ℕ → ℕ
  var_at i = get_or vs (i - 1) 0

  abbrev art : List ℤ
  art = artificials m n

  differ : Differ vs
  differ = Differ-filter _ _ (Differ-range 1 F.vars)

  row_is : (i : ℕ) → 0 < i → i ≤ n → at i ≡ start_row F S (i, var_at i)
  row_is i h k = zip_at (start_row F S) vs 1 (i - 1) _ (omega (arith, h, k)) ∙ ap (λ j. start_row F S (j, var_at i)) (let same : 1 + (i - 1) ≡ i = omega (arith, h) in same)

  clauses_of : ℕ → List ℤ
  clauses_of v = map (λ p. sign_of F S v *ℤ incidence (clause_at F p) v) S

  units_of : ℕ → List ℤ
  units_of v = map (λ w. cond (w == v) (pos 1) (pos 0)) vs

  last_of : ℕ → List ℤ
  last_of v = pos 0 ∷ (sign_of F S v *ℤ lack F S v) ∷ []

  entries_are : (i : ℕ) → 0 < i → i ≤ n → (at i).entries ≡ clauses_of (var_at i) ++ units_of (var_at i) ++ last_of (var_at i)
  unfolding start_row clauses_of units_of last_of
  entries_are i h k = ap (λ (x : Row). x.entries) (row_is i h k)

  basic_is : (i : ℕ) → 0 < i → i ≤ n → (at i).basic ≡ m + i
  unfolding start_row
  basic_is i h k = ap (λ (x : Row). x.basic) (row_is i h k)

  clauses_length : (v : ℕ) → length (clauses_of v) ≡ m
  unfolding clauses_of
  clauses_length v = length-map S _

  units_length : (v : ℕ) → length (units_of v) ≡ n
  unfolding units_of
  units_length v = length-map vs _

  width : (i : ℕ) → 0 < i → i ≤ n → length (at i).entries ≡ m + n + 2
  unfolding last_of
  width i h k =
      let v = var_at i in
      ap length (entries_are i h k) ∙ length-append (clauses_of v ++ units_of v) (last_of v)
      ∙ ap (λ x. x + 2) (length-append (clauses_of v) (units_of v) ∙ (let same : length (clauses_of v) + length (units_of v) ≡ m + n = omega (arith, clauses_length v, units_length v) in same))

  -- the artificial columns of the rows
  unit_at : (i j : ℕ) → 0 < i → i ≤ n → 0 < j → j ≤ n → entry (at i).entries (m + j) ≡ cond (j == i) (pos 1) (pos 0)
  unfolding units_of
  unit_at i j h k g l =
      let v = var_at i in
      let first = clauses_length v in
      let second = units_length v in
      let place : m + j - 1 - length (clauses_of v) ≡ j - 1 = omega (arith, first, g) in
      ap (λ (xs : List ℤ). entry xs (m + j)) (entries_are i h k) ∙ in_middle (clauses_of v) (units_of v) (last_of v) (m + j - 1) (omega (arith, first, g)) (omega (arith, first, second, g, l))
      ∙ ap (λ p. get_or (units_of v) p (pos 0)) place ∙ get_or-map (λ w. cond (w == v) (pos 1) (pos 0)) vs (j - 1) 0 (pos 0) (omega (arith, g, l)) ∙ by_test (j == i) refl
    where
      by_test : (b : Bool) → (j == i) ≡ b → cond (var_at j == var_at i) (pos 1) (pos 0) ≡ cond b (pos 1) (pos 0)
      by_test true e = let same : var_at j ≡ var_at i = ap var_at (eqb-true j i e) in rw (eq-eqb (var_at j) (var_at i) same) refl
      by_test false e = rw (ne_eqb (var_at j) (var_at i) (λ same. (let place = same_place vs (j - 1) (i - 1) differ (omega (arith, g, l)) (omega (arith, h, k)) same in
          let equal : j ≡ i = omega (arith, place, g, h) in both_ways (j == i) e (eq-eqb j i equal)))) refl

  -- the columns of the cost unit and of the right side
  last_at : (i p : ℕ) → 0 < i → i ≤ n → m + n ≤ p → get_or (at i).entries p (pos 0) ≡ get_or (last_of (var_at i)) (p - (m + n)) (pos 0)
  last_at i p h k g =
      let v = var_at i in
      let both : length (clauses_of v) + length (units_of v) ≡ m + n = omega (arith, clauses_length v, units_length v) in
      ap (λ (xs : List ℤ). get_or xs p (pos 0)) (entries_are i h k) ∙ in_last (clauses_of v) (units_of v) (last_of v) p (omega (arith, both, g)) ∙ ap (λ q. get_or (last_of v) (p - q) (pos 0)) both

  cost_unit_at : (i : ℕ) → 0 < i → i ≤ n → entry (at i).entries (m + n + 1) ≡ pos 0
  unfolding last_of
  cost_unit_at i h k = last_at i (m + n + 1 - 1) h k (omega arith) ∙ ap (λ q. get_or (last_of (var_at i)) q (pos 0)) (let place : m + n + 1 - 1 - (m + n) ≡ 0 = omega arith in place)

  right_at : (i : ℕ) → 0 < i → i ≤ n → pos 0 ≤ℤ entry (at i).entries (m + n + 2)
  unfolding last_of
  right_at i h k =
      subst (λ z. pos 0 ≤ℤ z) (sym (last_at i (m + n + 2 - 1) h k (omega arith) ∙ ap (λ q. get_or (last_of (var_at i)) q (pos 0)) (let place : m + n + 2 - 1 - (m + n) ≡ 1 = omega arith in place)))
      (signed_least (lack F S (var_at i)))

  unit_here : (i : ℕ) → 0 < i → i ≤ n → entry (at i).entries (m + i) ≡ pos 1
  unit_here i h k = unit_at i i h k h k ∙ rw (eq-eqb i i refl) refl

  unit_other : (i j : ℕ) → 0 < i → i ≤ n → 0 < j → j ≤ n → j ≢ i → entry (at i).entries (m + j) ≡ pos 0
  unit_other i j h k g l o = unit_at i j h k g l ∙ rw (ne_eqb j i o) refl

  combined_at : (i : ℕ) → 0 < i → i ≤ n → (k : ℕ) → entry (at i).entries k ≡ sum_of (map (λ j. entry (at i).entries (m + j) *ℤ entry (at j).entries k) (up_to n))
  combined_at i h g k = sym (sum_one (λ j. entry (at i).entries (m + j) *ℤ entry (at j).entries k) 1 n i h (omega (arith, g))
      (λ j l o a. ap (λ z. z *ℤ entry (at j).entries k) (unit_other i j h g l (omega (arith, o)) a) ∙ zero-*ℤ (entry (at j).entries k))
      ∙ ap (λ z. z *ℤ entry (at i).entries k) (unit_here i h g) ∙ one_mul (entry (at i).entries k))

  -- THE COST ROW

  column : ℕ → ℤ
  column p = sum_of (map (λ j. get_or (at j).entries p (pos 0)) (up_to n))

  columns_less : List ℤ
  columns_less = map (less_column (start_rows F S)) (up_to m)

  cost_end : List ℤ
  cost_end = pos 1 ∷ less_column (start_rows F S) (m + n + 2) ∷ []

  cost_is : start_cost F S ≡ columns_less ++ replicate n (pos 0) ++ cost_end
  unfolding start_cost columns_less cost_end
  cost_is = refl

  columns_length : length columns_less ≡ m
  unfolding columns_less
  columns_length = length-map-range_with_len (less_column (start_rows F S)) 1 m

  less_at : (p : ℕ) → less_column (start_rows F S) (p + 1) ≡ neg_ℤ (column p)
  unfolding column
  less_at p =
      let place : p + 1 - 1 ≡ p = omega arith in
      let rows : sum_of (map (λ j. entry (at j).entries (p + 1)) (range_with_len 1 (length (start_rows F S)))) ≡ sum_of (map (λ (row : Row). entry row.entries (p + 1)) (start_rows F S)) =
      sum_places (λ (row : Row). entry row.entries (p + 1)) (start_rows F S) (record { entries = []; basic = 0 }) 1 in
      ap neg_ℤ (sym rows ∙ ap (λ l. sum_of (map (λ j. entry (at j).entries (p + 1)) (range_with_len 1 l))) (zip_length (start_row F S) vs 1)
      ∙ ap (λ q. sum_of (map (λ j. get_or (at j).entries q (pos 0)) (up_to n))) place)

  columns_at : (p : ℕ) → p < m → get_or columns_less p (pos 0) ≡ less_column (start_rows F S) (p + 1)
  unfolding columns_less
  columns_at p h = get_or-map-range_with_len (less_column (start_rows F S)) 1 m p (p + 1) (pos 0) h (omega arith)

  cost_first : (p : ℕ) → p < m → get_or (start_cost F S) p (pos 0) ≡ neg_ℤ (column p)
  cost_first p h =
      ap (λ (xs : List ℤ). get_or xs p (pos 0)) cost_is ∙ in_first columns_less (replicate n (pos 0)) cost_end p (omega (arith, h, columns_length)) ∙ columns_at p h ∙ less_at p

  cost_middle : (p : ℕ) → m ≤ p → p < m + n → get_or (start_cost F S) p (pos 0) ≡ pos 0
  cost_middle p h k =
      let none = length-replicate {A = ℤ} n (pos 0) in
      ap (λ (xs : List ℤ). get_or xs p (pos 0)) cost_is ∙ in_middle columns_less (replicate n (pos 0)) cost_end p (omega (arith, h, columns_length)) (omega (arith, k, none, columns_length))
      ∙ get_or-replicate n (p - length columns_less) (pos 0) (pos 0) (omega (arith, h, k, columns_length))

  cost_last : (q p : ℕ) → p ≡ m + n + q → get_or (start_cost F S) p (pos 0) ≡ get_or cost_end q (pos 0)
  cost_last q p e =
      let none = length-replicate {A = ℤ} n (pos 0) in
      ap (λ (xs : List ℤ). get_or xs p (pos 0)) cost_is ∙ in_last columns_less (replicate n (pos 0)) cost_end p (omega (arith, e, none, columns_length))
      ∙ ap (λ x. get_or cost_end x (pos 0)) (let place : p - (length columns_less + length (replicate n (pos 0))) ≡ q = omega (arith, e, none, columns_length) in place)

  column_last : (q p : ℕ) → p ≡ m + n + q → ((v : ℕ) → get_or (last_of v) q (pos 0) ≡ pos 0) → column p ≡ pos 0
  unfolding column
  column_last q p e none = sum_none (λ j. get_or (at j).entries p (pos 0)) 1 n
      (λ j h k. last_at j p h (omega (arith, k)) (omega (arith, e)) ∙ ap (λ x. get_or (last_of (var_at j)) x (pos 0)) (let place : p - (m + n) ≡ q = omega (arith, e) in place) ∙ none (var_at j))

  column_middle : (p : ℕ) → m ≤ p → p < m + n → column p ≡ pos 1
  unfolding column
  column_middle p h k =
      let i = p - m + 1 in
      let place : m + i - 1 ≡ p = omega (arith, h) in
      let low : 0 < i = omega arith in
      let most : i ≤ n = omega (arith, h, k) in
      let at_column : (j : ℕ) → get_or (at j).entries p (pos 0) ≡ entry (at j).entries (m + i) = λ j. ap (λ x. get_or (at j).entries x (pos 0)) (sym place) in
      sum_one (λ j. get_or (at j).entries p (pos 0)) 1 n i low (omega (arith, most))
      (λ j g l a. at_column j ∙ unit_other j i g (omega (arith, l)) low most (λ e. a (sym e))) ∙ at_column i ∙ unit_here i low most

  -- the cost row less the artificial cost: less the sum of each column
  cost_less : (p : ℕ) → get_or (start_cost F S) p (pos 0) -ℤ get_or art p (pos 0) ≡ neg_ℤ (column p)
  unfolding cost_end last_of
  cost_less p = by_place (ltb p m) refl (ltb p (m + n)) refl
    where
      difference : (x y a b c : ℤ) → x ≡ a → y ≡ b → a -ℤ b ≡ c → x -ℤ y ≡ c
      difference x y a b c e f g = omega (arith, ints, e, f, g)

      less_none : (x : ℤ) → x -ℤ pos 0 ≡ x
      less_none x = omega (arith, ints)

      tail : (q : ℕ) → p ≡ m + n + q → get_or (start_cost F S) p (pos 0) -ℤ get_or art p (pos 0) ≡ neg_ℤ (column p)
      tail zero e = difference _ _ (pos 1) (pos 1) _ (cost_last 0 p e) (art_middle m n p (omega (arith, e)) (omega (arith, e))) (ap neg_ℤ (sym (column_last 0 p e (λ v. refl))))
      tail (suc zero) e =
          let right : less_column (start_rows F S) (m + n + 2) ≡ neg_ℤ (column p) =
          ap (less_column (start_rows F S)) (let place : m + n + 2 ≡ p + 1 = omega (arith, e) in place) ∙ less_at p in
          difference _ _ (neg_ℤ (column p)) (pos 0) _ (cost_last 1 p e ∙ right) (art_last m n 0 p (omega (arith, e))) (less_none (neg_ℤ (column p)))
      tail (suc (suc q)) e =
          difference _ _ (pos 0) (pos 0) _ (cost_last (suc (suc q)) p e) (art_last m n (suc q) p (omega (arith, e))) (ap neg_ℤ (sym (column_last (suc (suc q)) p e (λ v. refl))))

      by_place : (b : Bool) → ltb p m ≡ b → (c : Bool) → ltb p (m + n) ≡ c → get_or (start_cost F S) p (pos 0) -ℤ get_or art p (pos 0) ≡ neg_ℤ (column p)
      by_place true e c f = let h = ltb-true p m e in difference _ _ (neg_ℤ (column p)) (pos 0) _ (cost_first p h) (art_first m n p h) (less_none (neg_ℤ (column p)))
      by_place false e true f =
          let h = ltb-false p m e in
          let k = ltb-true p (m + n) f in
          difference _ _ (pos 0) (pos 1) _ (cost_middle p h k) (art_middle m n p h (omega (arith, k))) (ap neg_ℤ (sym (column_middle p h k)))
      by_place false e false f = let h = ltb-false p (m + n) f in tail (p - (m + n)) (omega (arith, h))

  cost_unit : entry (start_cost F S) (m + n + 1) ≡ pos 1
  unfolding cost_end
  cost_unit = cost_last 0 (m + n + 1 - 1) (omega arith)

  cost_width : length (start_cost F S) ≡ m + n + 2
  unfolding cost_end
  cost_width =
      let none = length-replicate {A = ℤ} n (pos 0) in
      ap length cost_is ∙ length-append (columns_less ++ replicate n (pos 0)) cost_end
      ∙ ap (λ x. x + 2) (length-append columns_less (replicate n (pos 0)) ∙ (let same : length columns_less + length (replicate n (pos 0)) ≡ m + n = omega (arith, none, columns_length) in same))

  -- the cost row less its unit times the artificial cost
  abbrev less_unit : Columns
  less_unit k = entry (start_cost F S) k -ℤ entry (start_cost F S) (m + n + 1) *ℤ entry art k

  less_unit_at : (k : ℕ) → less_unit k ≡ neg_ℤ (column (k - 1))
  less_unit_at k = ap (λ u. entry (start_cost F S) k -ℤ u *ℤ entry art k) cost_unit ∙ ap (λ z. entry (start_cost F S) k -ℤ z) (one_mul (entry art k)) ∙ cost_less (k - 1)

  less_unit_combined : (k : ℕ) → less_unit k ≡ sum_of (map (λ j. less_unit (m + j) *ℤ entry (at j).entries k) (up_to n))
  unfolding column
  less_unit_combined k = less_unit_at k ∙ sym (sum_less (λ j. entry (at j).entries k) 1 n)
      ∙ range_same (λ j. negsuc 0 *ℤ entry (at j).entries k) (λ j. less_unit (m + j) *ℤ entry (at j).entries k) 1 n
      (λ j h l. ap (λ z. z *ℤ entry (at j).entries k) (sym (less_unit_at (m + j) ∙ ap neg_ℤ (column_middle (m + j - 1) (omega (arith, h)) (omega (arith, h, l))))))

pub starting_rows : (F : Cnf) (S : List ℕ) → ReachedRows (start_of F S) (start_of F S)
unfolding start_of
starting_rows F S = record {
  positions = refl;
  vars = refl;
  signs = refl;
  rows = zip_length (start_row F S) (variables_at F S) 1;
  widths = λ i h. width F S i h.0 h.1;
  cost_width = cost_width F S;
  basic_least = λ i h. omega (arith, h, basic_is F S i h.0 h.1);
  basic_most = λ i h. omega (arith, h, basic_is F S i h.0 h.1);
  basic_positive = λ i h. subst (λ z. pos 0 <ℤ z) (sym (ap (λ b. entry (at F S i).entries b) (basic_is F S i h.0 h.1) ∙ unit_here F S i h.0 h.1)) (omega (arith, ints));
  basic_apart = λ i j h g n. ap (λ b. entry (at F S j).entries b) (basic_is F S i h.0 h.1) ∙ unit_other F S j i g.0 g.1 h.0 h.1 (λ e. n (sym e));
  basic_rest = λ i h. inl (ap (λ b. entry (start_cost F S) b) (basic_is F S i h.0 h.1) ∙ cost_middle F S (length S + i - 1) (omega (arith, h)) (omega (arith, h)));
  basic_cost = λ first i h. ap (λ b. entry (start_cost F S) b) (basic_is F S i h.0 h.1) ∙ cost_middle F S (length S + i - 1) (omega (arith, h)) (omega (arith, h));
  right_least = λ i h. right_at F S i h.0 h.1;
  unit_positive = subst (λ z. pos 0 <ℤ z) (sym (cost_unit F S)) (omega (arith, ints));
  unit_apart = λ i h. cost_unit_at F S i h.0 h.1;
  combined = λ i h. combined_at F S i h.0 h.1;
  cost_combined = less_unit_combined F S;
  solves = λ us v. v;
  solves_start = λ us v. v;
}
