-- Rows that are combined by their entries.
use Rattle.std.proofs.Common.{◌≡◌, List, length, map, ℤ, int_div, sym, ap, ◌∙◌}
use Rattle.lk_model.specs.Linear.Arithmetic.{first_wide, gcd_of, primitive}
use Rattle.lk_model.specs.Linear.Pivot.{combined, made_in_row}
use Rattle.lk_model.specs.declared.wide.Wide.{Wide as Operands}
use Rattle.exact_rows.specs.declared.sparse.Entry.{Entry}
use Rattle.exact_rows.specs.declared.sparse.SparseStop.{SparseStop}
use Rattle.exact_rows.specs.declared.sparse.SparseStop.TheVariants.{Wide, OutOfMemory}
use Rattle.exact_rows.specs.Made.{made_by, mixed}
use Rattle.exact_rows.specs.Sparse.{AreEntries, IsStop, entries_of, row_of}
use Rattle.exact_rows.specs.Merged.{content_of, divided}
use Rattle.exact_rows.proofs.Entries.{row_of_entries}
use Rattle.exact_rows.proofs.Contents.{row-divided}
use Rattle.exact_rows.proofs.Wides.{made_in_row_is, combined_is}

-- calls whose first result out of range is the same stop alike
pub stops_alike : (rs qs : List Operands) (stop : SparseStop) → first_wide rs ≡ first_wide qs → IsStop rs stop → IsStop qs stop
stops_alike rs qs (Wide w) e h = sym e ∙ h
stops_alike rs qs OutOfMemory e h = h

module _ (p f g scale share : ℤ) (row other : List ℤ) (es fs : List Entry) (d : g ≡ gcd_of p f) (a : scale ≡ int_div p g) (b : share ≡ int_div f g)
    (sizes : length row ≡ length other) (x : es ≡ entries_of row) (y : fs ≡ entries_of other) where
  row_again : row_of (length row) es ≡ row
  row_again = ap (row_of (length row)) x ∙ row_of_entries row

  other_again : row_of (length row) fs ≡ other
  other_again = ap (row_of (length row)) y ∙ ap (λ n. row_of n (entries_of other)) sizes ∙ row_of_entries other

  pub same_results : first_wide (made_by scale share (row_of (length row) es) (row_of (length row) fs)) ≡ first_wide (made_in_row p f row other)
  same_results =
      ap (λ xs. first_wide (made_by scale share xs (row_of (length row) fs))) row_again
      ∙ ap (λ ys. first_wide (made_by scale share row ys)) other_again
      ∙ sym (made_in_row_is p f g scale share row other d a b)

  pub combined_by : (now : List Entry) → AreEntries (length row) now → row_of (length row) now ≡ mixed scale share (row_of (length row) es) (row_of (length row) fs)
      → row_of (length row) (map (divided (content_of now)) now) ≡ combined p f row other
  combined_by now h e =
      row-divided (length row) now h
      ∙ ap primitive (e ∙ ap (λ xs. mixed scale share xs (row_of (length row) fs)) row_again ∙ ap (λ ys. mixed scale share row ys) other_again)
      ∙ combined_is p f g scale share row other d a b
