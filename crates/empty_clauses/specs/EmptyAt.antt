-- Where a clause is empty.
use Rattle.std.specs.Prelude.{◌≡◌, ℕ, ◌<◌, ◌≤◌, [], length}
use Rattle.lk_model.specs.Formulas.Formula.{Cnf, clause_at}

-- the position of an empty clause
pub record IsEmptyAt (F : Cnf) (p : ℕ) : Type 0 where
  pub first : 0 < p
  pub last : p ≤ length F.clauses
  pub empty : clause_at F p ≡ []
