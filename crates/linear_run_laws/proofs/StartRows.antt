-- The entries of the starting rows.
use Rattle.std.proofs.Common.{◌≡◌, inl, inr, ◌⊎◌, ℕ, ◌+◌, ◌-◌, ◌<◌, ◌≤◌, Bool, true, false, cond, ◌==◌, List, [], ◌∷◌, ◌++◌, map, length, get_or, ℤ, pos, negsuc, ◌*ℤ◌, int_lt, refl, ap, ◌∙◌, eq-eqb, arith}
use Rattle.std.proofs.lemmas.Bool.{ne_eqb, eqb-true, both_ways}
use Rattle.std.proofs.lemmas.List.{get_or-map, length-map}
use Rattle.lk_model.specs.Formulas.Formula.{Cnf, clause_at, variables_at}
use Rattle.lk_model.specs.Formulas.Balance.{incidence}
use Rattle.lk_model.specs.Linear.Rows.{Row, entry, lack, sign_of, start_row, start_rows}
use Rattle.lk_model.proofs.Counting.{Differ, Differ-filter, Differ-range, same_place}
use Rattle.exact_pivot.proofs.Artificials.{in_first, in_middle, in_last}
use Rattle.exact_pivot.proofs.Starts.{zip_at}

-- the variables differ
pub variables_differ : (F : Cnf) (S : List ℕ) → Differ (variables_at F S)
variables_differ F S = Differ-filter _ _ (Differ-range 1 F.vars)

module _ (F : Cnf) (S : List ℕ) where
  -- the variables of S, and how many clauses and variables there are
  abbrev pub vs : List ℕ
  vs = variables_at F S

  abbrev pub m : ℕ
  m = length S

  abbrev pub n : ℕ
  n = length (variables_at F S)

  -- the j-th starting row, and its variable with its sign
  abbrev pub at : ℕ → Row
  at i = get_or (start_rows F S) (i - 1) (record { entries = []; basic = 0 })

  abbrev pub var_at : ℕ → ℕ
  var_at i = get_or vs (i - 1) 0

  abbrev pub sign : ℕ → ℤ
  sign i = sign_of F S (var_at i)

  -- the row by its number
  row_is : (i : ℕ) → 0 < i → i ≤ n → at i ≡ start_row F S (i, var_at i)
  row_is i h k = zip_at (start_row F S) vs 1 (i - 1) _ (omega (arith, h, k)) ∙ ap (λ j. start_row F S (j, var_at i)) (let same : 1 + (i - 1) ≡ i = omega (arith, h) in same)

  -- its columns of clauses
  clauses_of : ℕ → List ℤ
  clauses_of v = map (λ p. sign_of F S v *ℤ incidence (clause_at F p) v) S

  -- its artificial columns
  units_of : ℕ → List ℤ
  units_of v = map (λ w. cond (w == v) (pos 1) (pos 0)) vs

  -- the cost unit and the right side
  last_of : ℕ → List ℤ
  last_of v = pos 0 ∷ (sign_of F S v *ℤ lack F S v) ∷ []

  -- its entries are these
  entries_are : (i : ℕ) → 0 < i → i ≤ n → (at i).entries ≡ clauses_of (var_at i) ++ units_of (var_at i) ++ last_of (var_at i)
  unfolding start_row clauses_of units_of last_of
  entries_are i h k = ap (λ (x : Row). x.entries) (row_is i h k)

  -- as many as there are clauses
  clauses_length : (v : ℕ) → length (clauses_of v) ≡ m
  unfolding clauses_of
  clauses_length v = length-map S _

  -- as many as there are variables
  units_length : (v : ℕ) → length (units_of v) ≡ n
  unfolding units_of
  units_length v = length-map vs _

  -- the columns of the clauses
  pub clause_entry : (i k : ℕ) → 0 < i → i ≤ n → 0 < k → k ≤ m → entry (at i).entries k ≡ sign i *ℤ incidence (clause_at F (get_or S (k - 1) 0)) (var_at i)
  unfolding clauses_of
  clause_entry i k h l g o =
      let v = var_at i in
      let first = clauses_length v in
      ap (λ (xs : List ℤ). entry xs k) (entries_are i h l) ∙ in_first (clauses_of v) (units_of v) (last_of v) (k - 1) (omega (arith, first, g, o))
      ∙ get_or-map (λ p. sign_of F S v *ℤ incidence (clause_at F p) v) S (k - 1) 0 (pos 0) (omega (arith, g, o))

  -- the artificial columns
  pub unit_entry : (i j : ℕ) → 0 < i → i ≤ n → 0 < j → j ≤ n → entry (at i).entries (m + j) ≡ cond (j == i) (pos 1) (pos 0)
  unfolding units_of
  unit_entry i j h k g l =
      let v = var_at i in
      let first = clauses_length v in
      let second = units_length v in
      let place : m + j - 1 - length (clauses_of v) ≡ j - 1 = omega (arith, first, g) in
      ap (λ (xs : List ℤ). entry xs (m + j)) (entries_are i h k) ∙ in_middle (clauses_of v) (units_of v) (last_of v) (m + j - 1) (omega (arith, first, g)) (omega (arith, first, second, g, l))
      ∙ ap (λ p. get_or (units_of v) p (pos 0)) place ∙ get_or-map (λ w. cond (w == v) (pos 1) (pos 0)) vs (j - 1) 0 (pos 0) (omega (arith, g, l)) ∙ by_test (j == i) refl
    where
      by_test : (b : Bool) → (j == i) ≡ b → cond (var_at j == var_at i) (pos 1) (pos 0) ≡ cond b (pos 1) (pos 0)
      by_test true e = let same : var_at j ≡ var_at i = ap var_at (eqb-true j i e) in rw (eq-eqb (var_at j) (var_at i) same) refl
      by_test false e = rw (ne_eqb (var_at j) (var_at i) (λ same. (let place = same_place vs (j - 1) (i - 1) (variables_differ F S) (omega (arith, g, l)) (omega (arith, h, k)) same in
          let equal : j ≡ i = omega (arith, place, g, h) in both_ways (j == i) e (eq-eqb j i equal)))) refl

  -- the right side
  pub right_entry : (i : ℕ) → 0 < i → i ≤ n → entry (at i).entries (m + n + 2) ≡ sign i *ℤ lack F S (var_at i)
  unfolding last_of
  right_entry i h k =
      let v = var_at i in
      let both : length (clauses_of v) + length (units_of v) ≡ m + n = omega (arith, clauses_length v, units_length v) in
      ap (λ (xs : List ℤ). entry xs (m + n + 2)) (entries_are i h k) ∙ in_last (clauses_of v) (units_of v) (last_of v) (m + n + 2 - 1) (omega (arith, both))
      ∙ ap (λ q. get_or (last_of v) q (pos 0)) (let place : m + n + 2 - 1 - (length (clauses_of v) + length (units_of v)) ≡ 1 = omega (arith, both) in place)

  -- a sign is 1 or -1
  pub sign_one : (v : ℕ) → (sign_of F S v ≡ pos 1) ⊎ (sign_of F S v ≡ negsuc 0)
  sign_one v = by_test (int_lt (lack F S v) (pos 0))
    where
      by_test : (b : Bool) → (cond b (negsuc 0) (pos 1) ≡ pos 1) ⊎ (cond b (negsuc 0) (pos 1) ≡ negsuc 0)
      by_test true = inr refl
      by_test false = inl refl

  -- the signs of the starting rows
  pub sign_entry : (i : ℕ) → 0 < i → i ≤ n → entry (map (sign_of F S) vs) i ≡ sign i
  sign_entry i h k = get_or-map (sign_of F S) vs (i - 1) 0 (pos 0) (omega (arith, h, k))
