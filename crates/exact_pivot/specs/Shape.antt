-- What a tableau keeps: its rows are reached from the starting ones for some clauses, and what follows of their shape.
use Rattle.std.specs.Prelude.{◌≡◌, ℕ, ◌+◌, ◌<◌, ◌≤◌, ◌^◌, pos, negsuc, List, ◌≤ℤ◌, ◌<ℤ◌, length, ◌⊎◌}
use Rattle.std.specs.List.{All}
use Rattle.lk_model.specs.Formulas.Formula.{Cnf}
use Rattle.lk_model.specs.Linear.Rows.{Row, TableauRows, entry, r_of, right_column}
use Rattle.exact_pivot.specs.Reached.{IsReached}

-- a row of this many columns, with a basic column before the cost unit, in which it is positive
pub record IsRow (columns : ℕ) (row : Row) : Type 0 where
  pub width : length row.entries ≡ columns
  pub least : 0 < row.basic
  pub most : row.basic + 2 ≤ columns
  pub positive : pos 0 <ℤ entry row.entries row.basic

pub record IsTableau (t : TableauRows) : Type 0 where
  pub size : right_column t < 2 ^ 32
  pub signs : length t.signs ≡ r_of t
  pub units : All (λ e. (e ≡ pos 1) ⊎ (e ≡ negsuc 0)) t.signs
  pub rows : length t.rows ≡ r_of t
  pub shapes : All (IsRow (right_column t)) t.rows
  pub cost : length t.cost ≡ right_column t
  pub rights : All (λ (row : Row). pos 0 ≤ℤ entry row.entries (right_column t)) t.rows
  pub formula : Cnf
  pub at : List ℕ
  pub reached : IsReached formula at t
