-- The entries of a starting row.
use Rattle.std.proofs.Common.{◌≡◌, ℕ, zero, suc, ◌+◌, ◌<◌, ◌≤◌, ◌-◌, ◌^◌, ◌==◌, Bool, true, false, cond, List, [], ◌∷◌, ◌++◌, map, length, get_or, ℤ, pos, negsuc, neg_ℤ, ◌+ℤ◌, ◌*ℤ◌, int_lt, unsigned_abs, eq-eqb, refl, sym, ap, ◌∙◌, subst, arith}
use Rattle.std.proofs.lemmas.Int.{ints}
use Rattle.std.proofs.lemmas.Bool.{ne_eqb, le-leb}
use Rattle.std.proofs.lemmas.Bool.Decides.{nat_tests}
use Rattle.std.proofs.lemmas.List.{length-append, length-map}
use Rattle.std.proofs.lemmas.List.Elements.{All-cons, All-nil}
use Rattle.std.specs.List.{All}
use Rattle.lk_model.specs.Limits.{is_in_range}
use Rattle.lk_model.specs.Lists.{is_nonzero, rises_within, sum_of}
use Rattle.lk_model.specs.Formulas.Formula.{Cnf, clause_at, variables_at, variable_occurs}
use Rattle.lk_model.specs.Formulas.Literal.{contains, complement}
use Rattle.lk_model.specs.Formulas.Balance.{incidence}
use Rattle.lk_model.specs.Linear.Rows.{lack, sign_of, start_row}
use Rattle.lk_model.proofs.Founds.{filtered_rise}
use Rattle.lk_model.proofs.Rising.{rises, rising_bounds}
use Rattle.lk_model.proofs.ListTests.{zero_is as zero_from}
use Rattle.exact_rows.specs.declared.sparse.Entry.{Entry}
use Rattle.exact_rows.specs.Made.{AreInRange}
use Rattle.exact_rows.specs.Sparse.{AreEntries, entries_of, row_of}
use Rattle.exact_rows.proofs.Entries.{entries_behind, are_entries, row_of_entries, map_twice}
use Rattle.exact_pivot.specs.Small.{AreSmall, AreSmallEntries}
use Rattle.exact_pivot.specs.Scattered.{with_number, entries_in, lack_of, sign_at, times_sign, start_entries}
use Rattle.exact_pivot.proofs.Wholes.{one_mul}
use Rattle.exact_pivot.proofs.Beginnings.{row_width, small_row, unit_most}
use Rattle.exact_pivot.proofs.Scattering.{behind_append, one_behind, with_append}

-- WHAT ENTRIES LACK

sum_behind : (low : ℕ) (xs : List ℤ) → sum_of (map (λ (e : Entry). e.value) (entries_behind low xs)) ≡ sum_of xs
sum_behind low [] = refl
sum_behind low (x ∷ xs) = at_test (is_nonzero x) refl (sum_behind (low + 1) xs)
  where
    at_test : (b : Bool) → is_nonzero x ≡ b → sum_of (map (λ (e : Entry). e.value) (entries_behind (low + 1) xs)) ≡ sum_of xs → sum_of (map (λ (e : Entry). e.value) (entries_behind low (x ∷ xs))) ≡ x +ℤ sum_of xs
    at_test true t later = rw t (ap (λ s. x +ℤ s) later)
    at_test false t later = (let none : sum_of xs ≡ x +ℤ sum_of xs = (let nothing = zero_from x t in omega (arith, ints, nothing)) in rw t (later ∙ none))

pub lack_is : (F : Cnf) (S : List ℕ) (v : ℕ) → lack_of (entries_in F S v) ≡ lack F S v
lack_is F S v = ap neg_ℤ (sum_behind 0 (map (λ p. incidence (clause_at F p) v) S))

-- ENTRIES TIMES A SIGN

abbrev signed : Bool → ℤ → ℤ
signed b x = cond b (negsuc 0) (pos 1) *ℤ x

minus : (x : ℤ) → negsuc 0 *ℤ x ≡ neg_ℤ x
minus x = omega (arith, ints)

minus_nonzero : (x : ℤ) → is_nonzero (neg_ℤ x) ≡ is_nonzero x
minus_nonzero (pos zero) = refl
minus_nonzero (pos (suc n)) = grind (arith, nat_tests)
minus_nonzero (negsuc n) = grind (arith, nat_tests)

signed_nonzero : (b : Bool) (x : ℤ) → is_nonzero (signed b x) ≡ is_nonzero x
signed_nonzero true x = ap is_nonzero (minus x) ∙ minus_nonzero x
signed_nonzero false x = ap is_nonzero (one_mul x)

times_behind : (b : Bool) (low : ℕ) (xs : List ℤ) → map (times_sign (cond b (negsuc 0) (pos 1))) (entries_behind low xs) ≡ entries_behind low (map (signed b) xs)
times_behind b low [] = refl
times_behind b low (x ∷ xs) = at_test (is_nonzero x) refl (times_behind b (low + 1) xs)
  where
    at_test : (d : Bool) → is_nonzero x ≡ d → map (times_sign (cond b (negsuc 0) (pos 1))) (entries_behind (low + 1) xs) ≡ entries_behind (low + 1) (map (signed b) xs)
        → map (times_sign (cond b (negsuc 0) (pos 1))) (entries_behind low (x ∷ xs)) ≡ entries_behind low (map (signed b) (x ∷ xs))
    at_test true t later = (let also = signed_nonzero b x ∙ t in rw (t, also) (ap (λ es. record { column = low + 1; value = signed b x } ∷ es) later))
    at_test false t later = (let also = signed_nonzero b x ∙ t in rw (t, also) later)

-- ONE IN AN ARTIFICIAL COLUMN

abbrev unit : ℕ → ℕ → ℤ
unit v w = cond (w == v) (pos 1) (pos 0)

none_behind : (v low from high : ℕ) (ws : List ℕ) → v ≤ from → rises_within from high ws ≡ true → entries_behind low (map (unit v) ws) ≡ []
none_behind v low from high [] h r = refl
none_behind v low from high (w ∷ ws) h r =
    let s = rises from high w ws r in
    let other : (w == v) ≡ false = ne_eqb w v (λ e. absurd (omega (arith, e, h, s.above))) in
    rw other (none_behind v (low + 1) w high ws (omega (arith, h, s.above)) s.more)

unit_behind : (v low from high i : ℕ) (ws : List ℕ) → rises_within from high ws ≡ true → i < length ws → v ≡ get_or ws i 0
    → entries_behind low (map (unit v) ws) ≡ record { column = low + 1 + i; value = pos 1 } ∷ []
unit_behind v low from high i [] r h e = absurd (omega (arith, h))
unit_behind v low from high zero (w ∷ ws) r h e =
    let s = rises from high w ws r in
    let same : (w == v) ≡ true = eq-eqb w v (sym e) in
    let place : low + 1 ≡ low + 1 + 0 = omega arith in
    rw same (λ j. record { column = place j; value = pos 1 } ∷ none_behind v (low + 1) w high ws (omega (arith, e)) s.more j)
unit_behind v low from high (suc i) (w ∷ ws) r h e =
    let s = rises from high w ws r in
    let above = rising_bounds w high ws i s.more (omega (arith, h)) in
    let other : (w == v) ≡ false = ne_eqb w v (λ f. absurd (omega (arith, f, e, above.0))) in
    let place : low + 1 + 1 + i ≡ low + 1 + suc i = omega arith in
    rw other (unit_behind v (low + 1) w high i ws s.more (omega (arith, h)) e ∙ ap (λ k. record { column = k; value = pos 1 } ∷ []) place)

-- THE ROW

module _ (F : Cnf) (S : List ℕ) (i v : ℕ) (h : i < length (variables_at F S)) (e : v ≡ get_or (variables_at F S) i 0) where
  abbrev sign_test : Bool
  sign_test = int_lt (lack F S v) (pos 0)

  abbrev counted : List ℤ
  counted = map (λ p. incidence (clause_at F p) v) S

  abbrev clauses : List ℤ
  clauses = map (λ p. sign_of F S v *ℤ incidence (clause_at F p) v) S

  abbrev units : List ℤ
  units = map (unit v) (variables_at F S)

  clauses_size : length clauses ≡ length S
  clauses_size = length-map S (λ p. sign_of F S v *ℤ incidence (clause_at F p) v)

  units_size : length units ≡ length (variables_at F S)
  units_size = length-map (variables_at F S) (unit v)

  first_entries : map (times_sign (sign_of F S v)) (entries_in F S v) ≡ entries_of clauses
  first_entries = times_behind sign_test 0 counted ∙ ap entries_of (sym (map_twice (signed sign_test) (λ p. incidence (clause_at F p) v) S))

  unit_entry : entries_behind (0 + length clauses) units ≡ record { column = length S + i + 1; value = pos 1 } ∷ []
  unit_entry =
      let place : 0 + length clauses + 1 + i ≡ length S + i + 1 = omega (arith, clauses_size) in
      unit_behind v (0 + length clauses) 0 F.vars i (variables_at F S) (filtered_rise F.vars (variable_occurs F S)) h e
      ∙ ap (λ k. record { column = k; value = pos 1 } ∷ []) place

  right_entry : (z : ℤ) → entries_behind (0 + length (clauses ++ units)) (pos 0 ∷ z ∷ []) ≡ with_number [] (length S + length (variables_at F S) + 2) z
  right_entry z =
      let place : 0 + length (clauses ++ units) + 1 + 1 ≡ length S + length (variables_at F S) + 2 = omega (arith, length-append clauses units, clauses_size, units_size) in
      one_behind (0 + length (clauses ++ units) + 1) z ∙ ap (λ k. with_number [] k z) place

  pub entries_are : start_entries (entries_in F S v) (length S + i + 1) (length S + length (variables_at F S) + 2) ≡ entries_of (start_row F S (1 + i, v)).entries
  unfolding start_row
  entries_are =
      let z : ℤ = sign_of F S v *ℤ lack F S v in
      let found = lack_is F S v in
      let made : start_entries (entries_in F S v) (length S + i + 1) (length S + length (variables_at F S) + 2)
      ≡ with_number (map (times_sign (sign_of F S v)) (entries_in F S v) ++ record { column = length S + i + 1; value = pos 1 } ∷ []) (length S + length (variables_at F S) + 2) z =
      λ j. with_number (map (times_sign (sign_at (found j))) (entries_in F S v) ++ record { column = length S + i + 1; value = pos 1 } ∷ []) (length S + length (variables_at F S) + 2) (sign_at (found j) *ℤ found j) in
      let parts : entries_of (clauses ++ units ++ pos 0 ∷ z ∷ []) ≡ (map (times_sign (sign_of F S v)) (entries_in F S v) ++ record { column = length S + i + 1; value = pos 1 } ∷ []) ++ with_number [] (length S + length (variables_at F S) + 2) z =
      behind_append 0 (clauses ++ units) (pos 0 ∷ z ∷ [])
      ∙ ap (λ es. es ++ entries_behind (0 + length (clauses ++ units)) (pos 0 ∷ z ∷ [])) (behind_append 0 clauses units)
      ∙ (λ j. (sym first_entries j ++ unit_entry j) ++ right_entry z j) in
      made ∙ sym (parts ∙ with_append (map (times_sign (sign_of F S v)) (entries_in F S v) ++ record { column = length S + i + 1; value = pos 1 } ∷ []) (length S + length (variables_at F S) + 2) z)

  width : length (start_row F S (1 + i, v)).entries ≡ length S + length (variables_at F S) + 2
  width = row_width F S (1 + i) v

  -- so they are entries of this row
  pub entries_fit : length S ≤ 4_000_000 → AreEntries (length S + length (variables_at F S) + 2) (start_entries (entries_in F S v) (length S + i + 1) (length S + length (variables_at F S) + 2))
  entries_fit few =
      let row = (start_row F S (1 + i, v)).entries in
      subst (λ (n : ℕ). AreEntries n (start_entries (entries_in F S v) (length S + i + 1) (length S + length (variables_at F S) + 2))) width
      (subst (AreEntries (length row)) (sym entries_are) (are_entries row (in_range row (small_row F S (1 + i) v few))))
    where
      within : (x : ℤ) → unsigned_abs x ≤ 4_000_000 → is_in_range x ≡ true
      within x h = le-leb (unsigned_abs x) (2 ^ 127 - 1) (omega (arith, h))

      in_range : (xs : List ℤ) → AreSmall xs → AreInRange xs
      in_range xs small k d h = within (get_or xs k d) (small k d h)

  pub row_is : row_of (length S + length (variables_at F S) + 2) (start_entries (entries_in F S v) (length S + i + 1) (length S + length (variables_at F S) + 2)) ≡ (start_row F S (1 + i, v)).entries
  row_is =
      let row = (start_row F S (1 + i, v)).entries in
      ap (row_of (length S + length (variables_at F S) + 2)) entries_are ∙ ap (λ n. row_of n (entries_of row)) (sym width) ∙ row_of_entries row

  -- the variable is one of the formula
  pub variable_least : v < F.vars + 1
  variable_least = (let b = rising_bounds 0 F.vars (variables_at F S) i (filtered_rise F.vars (variable_occurs F S)) h in omega (arith, b.1, e))

-- SMALL ENTRIES

few_behind : (low : ℕ) (xs : List ℤ) → length (entries_behind low xs) ≤ length xs
few_behind low [] = omega arith
few_behind low (x ∷ xs) = at_test (is_nonzero x) refl (few_behind (low + 1) xs)
  where
    at_test : (b : Bool) → is_nonzero x ≡ b → length (entries_behind (low + 1) xs) ≤ length xs → length (entries_behind low (x ∷ xs)) ≤ suc (length xs)
    at_test true t later = rw t (omega (arith, later))
    at_test false t later = rw t (omega (arith, later))

units_behind : (low : ℕ) (xs : List ℤ) → All (λ x. unsigned_abs x ≤ 1) xs → All (λ (e : Entry). unsigned_abs e.value ≤ 1) (entries_behind low xs)
units_behind low [] h = All-nil (λ (e : Entry). unsigned_abs e.value ≤ 1)
units_behind low (x ∷ xs) h = at_test (is_nonzero x) refl (units_behind (low + 1) xs (λ k d l. h (suc k) d (omega (arith, l))))
  where
    at_test : (b : Bool) → is_nonzero x ≡ b → All (λ (e : Entry). unsigned_abs e.value ≤ 1) (entries_behind (low + 1) xs) → All (λ (e : Entry). unsigned_abs e.value ≤ 1) (entries_behind low (x ∷ xs))
    at_test true t later = rw t (All-cons (λ (e : Entry). unsigned_abs e.value ≤ 1) (record { column = low + 1; value = x }) (entries_behind (low + 1) xs) (h 0 x (omega arith)) later)
    at_test false t later = rw t later

pub small_entries : (F : Cnf) (S : List ℕ) (v : ℕ) → length S ≤ 4_000_000 → AreSmallEntries (entries_in F S v)
small_entries F S v few = record {
  units = units_behind 0 along (all_units S);
  few = omega (arith, few, few_behind 0 along, length-map S (λ p. incidence (clause_at F p) v));
}
  where
    along : List ℤ
    along = map (λ p. incidence (clause_at F p) v) S

    all_units : (ps : List ℕ) → All (λ x. unsigned_abs x ≤ 1) (map (λ p. incidence (clause_at F p) v) ps)
    all_units [] = All-nil (λ x. unsigned_abs x ≤ 1)
    all_units (p ∷ ps) = All-cons (λ x. unsigned_abs x ≤ 1) (incidence (clause_at F p) v) (map (λ q. incidence (clause_at F q) v) ps)
        (unit_most (contains (clause_at F p) (pos v)) (contains (clause_at F p) (complement (pos v)))) (all_units ps)
