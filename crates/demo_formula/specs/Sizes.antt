-- The size of a formula that grows.
use Rattle.std.specs.Prelude.{◌≡◌, ◌≤◌, ◌*◌, length}
use Rattle.lk_model.specs.Formulas.Formula.{Cnf, literal_count}

-- it has 2,200 variables, and its clauses have three literals at most, on the average
pub record IsSmall (F : Cnf) : Type 0 where
  pub vars : F.vars ≡ 2200
  pub literals : literal_count F ≤ 3 * length F.clauses
