-- Rows that are cleared one after another.
use Rattle.std.proofs.Common.{◌≡◌, ℕ, suc, ◌+◌, ◌<◌, ◌≤◌, List, [], ◌++◌, take, drop, set, length, get_or, Some, None, ℤ, refl, sym, ap, ◌∙◌, arith, drop-cons}
use Rattle.std.proofs.lemmas.List.{drop_all}
use Rattle.std.specs.Option.{option_or}
use Rattle.lk_model.specs.Linear.Arithmetic.{first_wide}
use Rattle.lk_model.specs.Linear.Rows.{Row}
use Rattle.lk_model.specs.Linear.Pivot.{made_to_clear}
use Rattle.lk_model.specs.declared.wide.Wide.{Wide}
use Rattle.exact_rows.proofs.Wides.{first_wide-append}
use Rattle.exact_rows.proofs.Quotients.{written, unwritten}
use Rattle.exact_rows.specs.Sparse.{IsStop}
use Rattle.exact_rows.specs.declared.sparse.SparseStop.{SparseStop}
use Rattle.exact_rows.specs.declared.sparse.SparseStop.TheVariants as stops
use Rattle.exact_pivot.specs.Moves.{made_to_clear_all}

pub step_cleared : (zs xs rows : List Row) (i : ℕ) (y d : Row) → length zs ≡ length xs → i < length xs → rows ≡ take i zs ++ drop i xs
    → (get_or rows i d ≡ get_or xs i d → y ≡ get_or zs i d) → set rows i y ≡ take (i + 1) zs ++ drop (i + 1) xs
step_cleared zs xs rows i y d l h e f =
    let same : get_or rows i d ≡ get_or xs i d = ap (λ r. get_or r i d) e ∙ unwritten zs xs i d l h in
    rw (e, f same) (written zs xs i d l h)

-- what is made from a row on: what is made in it, and what is made later
made_from : (by : List ℤ) (k : ℕ) (rows : List Row) (i : ℕ) (d : Row) → i < length rows
    → first_wide (made_to_clear_all by k (drop i rows)) ≡ option_or (first_wide (made_to_clear by k (get_or rows i d).entries)) (first_wide (made_to_clear_all by k (drop (i + 1) rows)))
made_from by k rows i d h =
    let step : i + 1 ≡ suc i = omega arith in
    rw (step, drop-cons rows i d h) (first_wide-append (made_to_clear by k (get_or rows i d).entries) (made_to_clear_all by k (drop (suc i) rows)))

at_row : (by : List ℤ) (k : ℕ) (rows : List Row) (i : ℕ) (d : Row) (w : Wide) → i < length rows
    → first_wide (made_to_clear_all by k rows) ≡ first_wide (made_to_clear_all by k (drop i rows))
    → Some w ≡ first_wide (made_to_clear by k (get_or rows i d).entries) → Some w ≡ first_wide (made_to_clear_all by k rows)
at_row by k rows i d w h e f =
    let here : Some w ≡ option_or (first_wide (made_to_clear by k (get_or rows i d).entries)) (first_wide (made_to_clear_all by k (drop (i + 1) rows))) = rw (← f) refl in
    here ∙ sym (e ∙ made_from by k rows i d h)

pub stop_at_row : (by : List ℤ) (k : ℕ) (rows : List Row) (i : ℕ) (d : Row) (stop : SparseStop) → i < length rows
    → first_wide (made_to_clear_all by k rows) ≡ first_wide (made_to_clear_all by k (drop i rows))
    → IsStop (made_to_clear by k (get_or rows i d).entries) stop → IsStop (made_to_clear_all by k rows) stop
stop_at_row by k xs i d (stops.Wide w) h e f = sym (at_row by k xs i d w h e (sym f))
stop_at_row by k xs i d stops.OutOfMemory h e f = f

pub past_row : (by : List ℤ) (k : ℕ) (rows : List Row) (i : ℕ) (d : Row) → i < length rows
    → first_wide (made_to_clear_all by k rows) ≡ first_wide (made_to_clear_all by k (drop i rows))
    → None ≡ first_wide (made_to_clear by k (get_or rows i d).entries) → first_wide (made_to_clear_all by k rows) ≡ first_wide (made_to_clear_all by k (drop (i + 1) rows))
past_row by k rows i d h e f =
    let here : option_or (first_wide (made_to_clear by k (get_or rows i d).entries)) (first_wide (made_to_clear_all by k (drop (i + 1) rows))) ≡ first_wide (made_to_clear_all by k (drop (i + 1) rows)) = rw (← f) refl in
    e ∙ made_from by k rows i d h ∙ here

pub past_rows : (by : List ℤ) (k : ℕ) (rows : List Row) (i : ℕ) → length rows ≤ i
    → first_wide (made_to_clear_all by k rows) ≡ first_wide (made_to_clear_all by k (drop i rows)) → None ≡ first_wide (made_to_clear_all by k rows)
unfolding first_wide
past_rows by k rows i h e =
    let none : drop i rows ≡ [] = drop_all i rows h in
    let last : first_wide (made_to_clear_all by k (drop i rows)) ≡ None = ap (λ rs. first_wide (made_to_clear_all by k rs)) none in
    sym (e ∙ last)
