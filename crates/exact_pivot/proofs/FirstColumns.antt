-- The first column of a row whose number passes a test that 0 does not pass.
use Rattle.std.proofs.Common.{◌≡◌, ℕ, ◌<◌, ◌≤◌, ◌==◌, Bool, true, false, cond, nat_le, find, List, [], ◌∷◌, length, ℤ, pos, Option, Some, None, refl, sym, ap, ◌∙◌, arith}
use Rattle.std.proofs.lemmas.Bool.Decides.{nat_tests}
use Rattle.std.proofs.lemmas.Bool.{leb-true, leb-false}
use Rattle.lk_model.specs.Lists.{up_to, rises_within}
use Rattle.lk_model.specs.Linear.Rows.{entry}
use Rattle.lk_model.proofs.Rising.{rises}
use Rattle.exact_rows.specs.declared.sparse.Entry.{Entry}
use Rattle.exact_rows.specs.Sparse.{AreEntries, value_in_column, row_of, entries_of}
use Rattle.exact_rows.proofs.Entries.{columns_of, number_before, number_is, row_of_entries}
use Rattle.exact_pivot.specs.Columns.{first_column, column_within}
use Rattle.exact_pivot.proofs.Finds.{find_first, find_none}

-- where the column stands, behind some column
record FirstIs (test : ℤ → Bool) (low : ℕ) (es : List Entry) (k : ℕ) : Type 0 where
  pub above : low < k
  pub passes : test (value_in_column es k) ≡ true
  pub before : (j : ℕ) → j < k → test (value_in_column es j) ≡ false

abbrev FirstAt : (ℤ → Bool) → ℕ → List Entry → Option ℕ → Type 0
FirstAt test low es None = (k : ℕ) → test (value_in_column es k) ≡ false
FirstAt test low es (Some k) = FirstIs test low es k

module _ (test : ℤ → Bool) (zero_fails : test (pos 0) ≡ false) where
  number_fails : (e : Entry) (es : List Entry) (k : ℕ) → test e.value ≡ false → test (value_in_column es k) ≡ false → test (value_in_column (e ∷ es) k) ≡ false
  number_fails e es k here later = at_test (e.column == k) refl
    where
      at_test : (b : Bool) → (e.column == k) ≡ b → test (value_in_column (e ∷ es) k) ≡ false
      at_test true t = rw t here
      at_test false t = rw t later

  number_other : (e : Entry) (es : List Entry) (k : ℕ) → e.column < k → value_in_column (e ∷ es) k ≡ value_in_column es k
  number_other e es k h = grind (arith, nat_tests, h)

  number_here : (e : Entry) (es : List Entry) → value_in_column (e ∷ es) e.column ≡ e.value
  number_here e es = grind (arith, nat_tests)

  first_passed : (e : Entry) (es : List Entry) (low : ℕ) (o : Option ℕ) → low < e.column → test e.value ≡ false → FirstAt test e.column es o → FirstAt test low (e ∷ es) o
  first_passed e es low None above here none = λ k. number_fails e es k here (none k)
  first_passed e es low (Some k) above here f = record {
    above = omega (arith, above, f.above);
    passes = ap test (number_other e es k f.above) ∙ f.passes;
    before = λ j h. number_fails e es j here (f.before j h);
  }

  number_before_it : (e : Entry) (es : List Entry) (high j : ℕ) → rises_within e.column high (columns_of es) ≡ true → j < e.column → value_in_column (e ∷ es) j ≡ pos 0
  number_before_it e es high j r h =
      let none = number_before e.column high es j r (omega (arith, h)) in
      grind (arith, nat_tests, h, none)

  first_at : (low high : ℕ) (es : List Entry) → rises_within low high (columns_of es) ≡ true → FirstAt test low es (first_column test es)
  first_at low high [] r = λ k. zero_fails
  first_at low high (e ∷ es) r = at_test (test e.value) refl (first_at e.column high es (rises low high e.column (columns_of es) r).more)
    where
      at_test : (b : Bool) → test e.value ≡ b → FirstAt test e.column es (first_column test es) → FirstAt test low (e ∷ es) (first_column test (e ∷ es))
      at_test true t later =
          let s = rises low high e.column (columns_of es) r in
          let here : FirstIs test low (e ∷ es) e.column = record {
            above = s.above;
            passes = ap test (number_here e es) ∙ t;
            before = λ j h. ap test (number_before_it e es high j s.more h) ∙ zero_fails;
          } in
          rw t here
      at_test false t later = (let s = rises low high e.column (columns_of es) r in rw t (first_passed e es low (first_column test es) s.above t later))

  found_at : (row : List ℤ) (es : List Entry) (last : ℕ) (o : Option ℕ) → ((k : ℕ) → 0 < k → value_in_column es k ≡ entry row k) → FirstAt test 0 es o
      → column_within last o ≡ find (λ k. test (entry row k)) (up_to last)
  found_at row es last None same none = sym (find_none (λ k. test (entry row k)) 1 last (λ j h l. ap test (sym (same j (omega (arith, h)))) ∙ none j))
  found_at row es last (Some k) same f = by_place (nat_le k last) refl
    where
      fails : (j : ℕ) → 1 ≤ j → j < k → test (entry row j) ≡ false
      fails j h l = ap test (sym (same j (omega (arith, h)))) ∙ f.before j l

      by_place : (b : Bool) → nat_le k last ≡ b → cond b (Some k) None ≡ find (λ j. test (entry row j)) (up_to last)
      by_place true e = sym (find_first (λ j. test (entry row j)) 1 last k (omega (arith, f.above)) (let most = leb-true k last e in omega (arith, most)) (ap test (sym (same k f.above)) ∙ f.passes) fails)
      by_place false e = sym (find_none (λ j. test (entry row j)) 1 last (λ j h l. fails j h (let more = leb-false k last e in omega (arith, more, l))))

  -- from the entries of a row
  pub first_found : (row : List ℤ) (es : List Entry) (last : ℕ) (column : Option ℕ) → es ≡ entries_of row → AreEntries (length row) es → column ≡ first_column test es
      → column_within last column ≡ find (λ k. test (entry row k)) (up_to last)
  first_found row es last column e h c =
      let again : row_of (length row) es ≡ row = ap (row_of (length row)) e ∙ row_of_entries row in
      ap (column_within last) c
      ∙ found_at row es last (first_column test es) (λ k some. number_is (length row) es k h some ∙ ap (λ (xs : List ℤ). entry xs k) again) (first_at 0 (length row) es h.rise)

-- none is found in an empty row
pub none_found : (test : ℤ → Bool) (last : ℕ) → test (pos 0) ≡ false → None ≡ find (λ k. test (entry [] k)) (up_to last)
none_found test last e = sym (find_none (λ k. test (entry [] k)) 1 last (λ j h l. e))
