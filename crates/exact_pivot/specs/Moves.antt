-- The moves of the linear run as the code names them, and the stops of its calls.
use Rattle.std.specs.Prelude.{◌≡◌, ⊤, ℕ, ℤ, List, map, if◌then◌else◌, neg_ℤ, int_lt, pos, Some, None, Result, Ok, Err}
use Rattle.lk_model.specs.Linear.Arithmetic.{first_wide}
use Rattle.std.specs.List.{flat_map}
use Rattle.lk_model.specs.Linear.Pivot.{cleared, made_to_clear}
use Rattle.lk_model.specs.Linear.Rows.{Row, entry}
use Rattle.lk_model.specs.Linear.Phases.{NextMove, PivotOn, StageStands, EndsLean}
use Rattle.lk_model.specs.declared.wide.Wide.{Wide as Operands}
use Rattle.exact_pivot.specs.declared.stop.Next.{Next}
use Rattle.exact_pivot.specs.declared.stop.Next.TheVariants.{Pivot, Touch, Lean}
use Rattle.exact_pivot.specs.declared.stop.PivotStop.{PivotStop}
use Rattle.exact_pivot.specs.declared.stop.PivotStop.TheVariants.{Wide, OutOfMemory}

abbrev pub move_of : Next → NextMove
move_of (Pivot row col) = PivotOn row col
move_of Touch = StageStands
move_of Lean = EndsLean

-- a row, multiplied by -1 where its entry in column k is negative, with k as its basic column
abbrev pub turned_on : ℕ → Row → Row
turned_on k row = record { entries = (if int_lt (entry row.entries k) (pos 0) then map neg_ℤ row.entries else row.entries); basic = k }

-- A call that makes these results gives this value where none of them is out of range, and else the operands of the first
-- one that is. It may want memory at any time.
abbrev pub Gives : {X : Type 0} → List Operands → X → Result X PivotStop → Type 0
Gives results there (Ok x) = (first_wide results ≡ None) × (x ≡ there)
Gives results there (Err (Wide w)) = first_wide results ≡ Some w
Gives results there (Err OutOfMemory) = ⊤

-- a row without its entry in column k, by another row; and what this makes, of all rows
abbrev pub cleared_row : List ℤ → ℕ → Row → Row
cleared_row by k row = record row { entries = cleared by k row.entries }

abbrev pub made_to_clear_all : List ℤ → ℕ → List Row → List Operands
made_to_clear_all by k rows = flat_map (λ (row : Row). made_to_clear by k row.entries) rows
