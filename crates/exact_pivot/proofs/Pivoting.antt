-- The rows after a pivot, by the calls that make them.
use Rattle.std.proofs.Common.{◌≡◌, ℕ, zero, suc, ◌+◌, ◌-◌, ◌<◌, not, cond, ◌==◌, List, [], ◌∷◌, ◌++◌, map, filter, take, drop, length, get_or, ℤ, None, Err, refl, sym, ap, ◌∙◌, arith}
use Rattle.std.specs.Prelude.{⊤}
use Rattle.std.specs.List.{All, range_with_len, insert, remove, flat_map}
use Rattle.std.specs.Option.{option_or}
use Rattle.std.proofs.lemmas.List.{get_or_read}
use Rattle.std.proofs.lemmas.List.Elements.{All-cons}
use Rattle.lk_model.specs.Lists.{up_to}
use Rattle.lk_model.specs.Linear.Arithmetic.{first_wide}
use Rattle.lk_model.specs.Linear.Rows.{Row, TableauRows, row_at, r_of, right_column}
use Rattle.lk_model.specs.Linear.Pivot.{in_first_phase, turned, cleared, made_to_clear, row_after, pivoted, made_in_pivot}
use Rattle.lk_model.specs.declared.wide.Wide.{Wide}
use Rattle.exact_rows.proofs.Wides.{first_wide-append}
use Rattle.exact_rows.specs.Sparse.{IsStop}
use Rattle.exact_rows.specs.declared.sparse.SparseStop.{SparseStop}
use Rattle.exact_rows.specs.declared.sparse.SparseStop.TheVariants as stops
use Rattle.exact_pivot.specs.declared.stop.PivotStop.{PivotStop}
use Rattle.exact_pivot.specs.declared.stop.PivotStop.TheVariants as pivot_stops
use Rattle.exact_pivot.specs.Reached.{IsPivot}
use Rattle.exact_pivot.specs.Shape.{IsTableau}
use Rattle.exact_pivot.specs.Moves.{Gives, cleared_row, made_to_clear_all, turned_on}
use Rattle.exact_pivot.specs.Stops.{stop_of}
use Rattle.exact_pivot.proofs.Clearing.{turned_width}
use Rattle.exact_pivot.proofs.Pivots.{map_apart, made_apart}

-- rows that are written back to where they lay
pub written_back : {X : Type 0} (xs ys : List X) (n : ℕ) → length xs ≡ length ys → length ys ≡ n → take n (xs ++ drop (length xs) ys) ≡ xs
written_back [] [] zero e f = refl
written_back [] [] (suc n) e f = absurd (omega (arith, f))
written_back [] (y ∷ ys) n e f = absurd (omega (arith, e))
written_back (x ∷ xs) [] n e f = absurd (omega (arith, e))
written_back (x ∷ xs) (y ∷ ys) zero e f = absurd (omega (arith, f))
written_back (x ∷ xs) (y ∷ ys) (suc n) e f = ap (λ zs. x ∷ zs) (written_back xs ys n (omega (arith, e)) (omega (arith, f)))

all_remove : {X : Type 0} (P : X → Type 0) (xs : List X) (i : ℕ) → All P xs → All P (remove xs i)
all_remove P [] zero a = a
all_remove P [] (suc i) a = a
all_remove P (x ∷ xs) zero a = λ k d h. a (suc k) d (omega (arith, h))
all_remove P (x ∷ xs) (suc i) a = All-cons P x (remove xs i) (a 0 x (omega arith)) (all_remove P xs i (λ k d h. a (suc k) d (omega (arith, h))))

-- a stop is the same whatever the call gives
pub stops_for : {Y : Type 0} (made : List Wide) (y : Y) (stop : PivotStop) → Gives {X = ⊤} made tt (Err stop) → Gives made y (Err stop)
stops_for made y (pivot_stops.Wide w) h = h
stops_for made y pivot_stops.OutOfMemory h = h

module _ (t : TableauRows) (i k : ℕ) (shape : IsTableau t) (p : IsPivot t i k) where
  abbrev none : Row
  none = record { entries = []; basic = 0 }

  place : 1 + (i - 1) ≡ i
  place = omega (arith, p.row)

  within : i - 1 < length t.rows
  within = omega (arith, p.row, shape.rows)

  pub rows_are : map (row_after t i k) (up_to (r_of t)) ≡ insert (map (cleared_row (turned t i k) k) (remove t.rows (i - 1))) (i - 1) (record { entries = turned t i k; basic = k })
  rows_are =
      ap (λ n. map (row_after t i k) (range_with_len 1 n)) (sym shape.rows)
      ∙ ap (λ n. map (λ j. cond (j == n) (record { entries = turned t i k; basic = k }) (cleared_row (turned t i k) k (get_or t.rows (j - 1) none))) (range_with_len 1 (length t.rows))) (sym place)
      ∙ map_apart (cleared_row (turned t i k) k) (record { entries = turned t i k; basic = k }) t.rows none 1 (i - 1) within

  pub made_is : first_wide (made_in_pivot t i k)
      ≡ option_or (first_wide (made_to_clear_all (turned t i k) k (remove t.rows (i - 1)))) (first_wide (cond (in_first_phase t) (made_to_clear (turned t i k) k t.cost) []))
  unfolding made_in_pivot
  made_is =
      let others : flat_map (λ j. made_to_clear (turned t i k) k (row_at t j).entries) (filter (λ j. not (j == i)) (up_to (r_of t))) ≡ made_to_clear_all (turned t i k) k (remove t.rows (i - 1)) =
      ap (λ n. flat_map (λ j. made_to_clear (turned t i k) k (row_at t j).entries) (filter (λ j. not (j == i)) (range_with_len 1 n))) (sym shape.rows)
      ∙ ap (λ n. flat_map (λ j. made_to_clear (turned t i k) k (row_at t j).entries) (filter (λ j. not (j == n)) (range_with_len 1 (length t.rows)))) (sym place)
      ∙ made_apart (λ (row : Row). made_to_clear (turned t i k) k row.entries) t.rows none 1 (i - 1) within in
      ap (λ (ws : List Wide). first_wide (ws ++ cond (in_first_phase t) (made_to_clear (turned t i k) k t.cost) [])) others
      ∙ first_wide-append (made_to_clear_all (turned t i k) k (remove t.rows (i - 1))) (cond (in_first_phase t) (made_to_clear (turned t i k) k t.cost) [])

  -- the row that is taken out, turned
  pub turned_is : (row : Row) → row ≡ get_or t.rows (i - 1) row → turned_on k row ≡ record { entries = turned t i k; basic = k }
  turned_is row e = ap (turned_on k) (get_or_read t.rows (i - 1) row within e none)

  width : length (turned t i k) ≡ right_column t
  width = turned_width _ (row_at t i).entries ∙ (shape.shapes (i - 1) none within).width

  pub others_width : All (λ (row : Row). length row.entries ≡ length (turned t i k)) (remove t.rows (i - 1))
  others_width = all_remove (λ (row : Row). length row.entries ≡ length (turned t i k)) t.rows (i - 1) (λ n d h. (shape.shapes n d h).width ∙ sym width)

  pub cost_width : length t.cost ≡ length (turned t i k)
  cost_width = shape.cost ∙ sym width

  -- what the calls are given and answer

  pub by_is : (row after : Row) (by : List ℤ) → row ≡ get_or t.rows (i - 1) row → after ≡ turned_on k row → by ≡ after.entries → by ≡ turned t i k
  by_is row after by e f g = g ∙ ap (λ (x : Row). x.entries) (f ∙ turned_is row e)

  abbrev others : List Wide
  others = made_to_clear_all (turned t i k) k (remove t.rows (i - 1))

  abbrev last : List Wide
  last = cond (in_first_phase t) (made_to_clear (turned t i k) k t.cost) []

  pub first_stops : (stop : SparseStop) → IsStop others stop → Gives {X = ⊤} (made_in_pivot t i k) tt (Err (stop_of stop))
  first_stops (stops.Wide w) h = made_is ∙ ap (λ o. option_or o (first_wide last)) h
  first_stops stops.OutOfMemory h = h

  pub second_is : first_wide others ≡ None → first_wide (made_in_pivot t i k) ≡ first_wide last
  second_is e = made_is ∙ ap (λ o. option_or o (first_wide last)) e

  pub second_stops : (stop : SparseStop) → first_wide others ≡ None → IsStop last stop → Gives {X = ⊤} (made_in_pivot t i k) tt (Err (stop_of stop))
  second_stops (stops.Wide w) e h = second_is e ∙ h
  second_stops stops.OutOfMemory e h = h

  pub pivoted_is : (rows : List Row) (cost : List ℤ) → rows ≡ insert (map (cleared_row (turned t i k) k) (remove t.rows (i - 1))) (i - 1) (record { entries = turned t i k; basic = k })
      → cost ≡ cond (in_first_phase t) (cleared (turned t i k) k t.cost) t.cost → record t { rows = rows; cost = cost } ≡ pivoted t i k
  unfolding pivoted
  pivoted_is rows cost e f = λ j. record t { rows = (e ∙ sym rows_are) j; cost = f j }
