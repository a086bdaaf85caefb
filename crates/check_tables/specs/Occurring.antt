-- The variables that occur at some positions, in a set.
use Rattle.std.specs.Prelude.{◌≡◌, ◌≤◌, ℕ, Bool, ◌||◌, List, length, ℤ}
use Rattle.lk_model.specs.Formulas.Literal.{mentions}
use Rattle.lk_model.specs.Formulas.Formula.{Cnf, variable_occurs}
use Rattle.lk_model.specs.Held.VariableSets.{is_in}

-- the variables that occur at these positions
pub record AreOccurring (F : Cnf) (ps : List ℕ) (occurring : List Bool) : Type 0 where
  pub size : length occurring ≡ F.vars
  pub told : (v : ℕ) → 1 ≤ v → v ≤ F.vars → is_in occurring v ≡ variable_occurs F ps v

-- the variables of one clause more
pub record NotesVariables (n : ℕ) (clause : List ℤ) (before after : List Bool) : Type 0 where
  pub size : length after ≡ length before
  pub noted : (v : ℕ) → 1 ≤ v → v ≤ n → is_in after v ≡ (is_in before v || mentions clause v)
