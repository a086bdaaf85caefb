-- The rows at a moment at which a run pivots.
use Rattle.std.specs.Prelude.{◌≡◌, ℕ, Bool, List, ℤ}
use Rattle.lk_model.specs.Linear.Rows.{Row, TableauRows}
use Rattle.lk_model.specs.Linear.Pivot.{in_first_phase}
use Rattle.exact_pivot.specs.Reached.{IsPivot}
use Rattle.exact_pivot.specs.Shape.{IsTableau}

-- the rows and the cost row of a tableau that has this pivot, and whether it is in the first phase
pub record IsAtPivot (t : TableauRows) (i k : ℕ) (rows : List Row) (cost : List ℤ) (first_phase : Bool) : Type 0 where
  pub shape : IsTableau t
  pub pivot : IsPivot t i k
  pub rows_are : rows ≡ t.rows
  pub cost_is : cost ≡ t.cost
  pub phase : first_phase ≡ in_first_phase t
