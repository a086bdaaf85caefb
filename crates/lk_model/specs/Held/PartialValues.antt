-- How the code holds a partial assignment: a value for each variable that is set.
use Rattle.std.specs.Prelude.{zero, suc, ◌-◌, Bool, List, ℤ, Option, Some, None, slice_index_or, slice_set}
use Rattle.lk_model.specs.Formulas.Literal.{variable, is_positive}
use Rattle.lk_model.specs.Formulas.Assignment.{Assignment}

-- the assignment that gives the variables 1, 2, .. these values
abbrev pub assignment_by : List (Option Bool) → Assignment
assignment_by values zero = None
assignment_by values (suc k) = slice_index_or values k None

-- the values with one literal made true
abbrev pub with_true : List (Option Bool) → ℤ → List (Option Bool)
with_true values l = slice_set values (variable l - 1) (Some (is_positive l))
