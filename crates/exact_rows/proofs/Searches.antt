-- What a binary search finds among entries whose columns rise.
use Rattle.std.proofs.Common.{◌≡◌, ◌≢◌, ℕ, zero, suc, ◌<◌, ◌≤◌, true, List, [], ◌∷◌, length, get_or, pos, Ok, Err, inl, inr, refl, sym, ◌∙◌, arith}
use Rattle.std.proofs.lemmas.Bool.Decides.{nat_tests}
use Rattle.std.proofs.lemmas.Bool.{cases_lt}
use Rattle.std.proofs.lemmas.Cmp.{ranked}
use Rattle.std.proofs.lemmas.List.Sorted.{IsNonDecreasingBy-from_default}
use Rattle.std.specs.List.Sorted.{IsSearchInRange, IsBinarySearchResult, IsNonDecreasingBy}
use Rattle.std.specs.Ordering.{nat_cmp, ordering_index}
use Rattle.lk_model.specs.Lists.{rises_within}
use Rattle.lk_model.proofs.Rising.{rises}
use Rattle.exact_rows.specs.declared.sparse.Entry.{Entry}
use Rattle.exact_rows.specs.Sparse.{value_in_column}
use Rattle.exact_rows.proofs.Entries.{columns_of}

column_above : (low high : ℕ) (es : List Entry) (i : ℕ) (d : Entry) → rises_within low high (columns_of es) ≡ true → i < length es → low < (get_or es i d).column
column_above low high [] i d r h = absurd (omega (arith, h))
column_above low high (e ∷ es) zero d r h = (rises low high e.column (columns_of es) r).above
column_above low high (e ∷ es) (suc i) d r h =
    let s = rises low high e.column (columns_of es) r in
    omega (arith, s.above, column_above e.column high es i d s.more (omega (arith, h)))

columns_rise : (low high : ℕ) (es : List Entry) (i j : ℕ) (d : Entry) → rises_within low high (columns_of es) ≡ true → i ≤ j → j < length es → (get_or es i d).column ≤ (get_or es j d).column
columns_rise low high [] i j d r h k = absurd (omega (arith, k))
columns_rise low high (e ∷ es) zero zero d r h k = omega arith
columns_rise low high (e ∷ es) zero (suc j) d r h k =
    let s = rises low high e.column (columns_of es) r in
    omega (arith, column_above e.column high es j d s.more (omega (arith, k)))
columns_rise low high (e ∷ es) (suc i) zero d r h k = absurd (omega (arith, h))
columns_rise low high (e ∷ es) (suc i) (suc j) d r h k =
    columns_rise e.column high es i j d (rises low high e.column (columns_of es) r).more (omega (arith, h)) (omega (arith, k))

number_at : (low high : ℕ) (es : List Entry) (i : ℕ) (d : Entry) → rises_within low high (columns_of es) ≡ true → i < length es → value_in_column es (get_or es i d).column ≡ (get_or es i d).value
number_at low high [] i d r h = absurd (omega (arith, h))
number_at low high (e ∷ es) zero d r h = grind (arith, nat_tests)
number_at low high (e ∷ es) (suc i) d r h =
    let s = rises low high e.column (columns_of es) r in
    let above = column_above e.column high es i d s.more (omega (arith, h)) in
    let later = number_at e.column high es i d s.more (omega (arith, h)) in
    grind (arith, nat_tests, above, later)

number_none : (es : List Entry) (k : ℕ) (d : Entry) → ((i : ℕ) → i < length es → (get_or es i d).column ≢ k) → value_in_column es k ≡ pos 0
number_none [] k d h = refl
number_none (e ∷ es) k d h =
    let first = h 0 (omega arith) in
    let later = number_none es k d (λ i l. h (suc i) (omega (arith, l))) in
    grind (arith, nat_tests, first, later)

-- the entry that was found, at its place
pub number_found : (n : ℕ) (es : List Entry) (k at : ℕ) (d : Entry) → rises_within 0 n (columns_of es) ≡ true → at < length es
    → IsBinarySearchResult (λ (e : Entry). nat_cmp e.column k) es (Ok at) → (get_or es at d).value ≡ value_in_column es k
number_found n es k at d r h f =
    let same : (get_or es at d).column ≡ k = ranked (get_or es at d).column k _ (sym (f d)) in
    sym (number_at 0 n es at d r h) ∙ rw same refl

-- none was found
pub number_not_found : (n : ℕ) (es : List Entry) (k at : ℕ) (d : Entry) → rises_within 0 n (columns_of es) ≡ true
    → IsSearchInRange (Err at) (length es) → IsBinarySearchResult (λ (e : Entry). nat_cmp e.column k) es (Err at) → pos 0 ≡ value_in_column es k
number_not_found n es k at d r b f =
    let rise : IsNonDecreasingBy (λ (e : Entry). ordering_index (nat_cmp e.column k)) es = IsNonDecreasingBy-from_default (λ (e : Entry). ordering_index (nat_cmp e.column k)) es d (λ i j le h.
    let up = columns_rise 0 n es i j d r le h in grind (arith, nat_tests, up)) in
    let parted = f rise in
    sym (number_none es k d (λ i h. elim (cases_lt i at) [
      | inl before ↦ (let less = ranked (get_or es i d).column k _ (sym (parted.0 i d (omega (arith, b, before)) before)) in (λ same. omega (arith, less, same)))
      | inr behind ↦ (let more = ranked (get_or es i d).column k _ (sym (parted.1 i d behind h)) in (λ same. omega (arith, more, same)))
    ]))
