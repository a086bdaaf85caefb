-- The positions that mention a variable.
use Rattle.std.specs.Prelude.{◌≡◌, ℕ, ◌+◌, ◌*◌, List, [], ◌++◌, length, slice_index_or, IsTrue}
use Rattle.lk_model.specs.Lists.{among}
use Rattle.lk_model.specs.Formulas.Literal.{mentions}
use Rattle.lk_model.specs.Formulas.Formula.{Cnf, clause_at}

-- the positions of a variable, in lists of the positions of each literal
abbrev pub positions_of_variable : List (List ℕ) → ℕ → List ℕ
positions_of_variable lists v = slice_index_or lists (2 * v) [] ++ slice_index_or lists (2 * v + 1) []

-- the positions of a variable are those whose clauses mention it
pub record HavePositions (F : Cnf) (lists : List (List ℕ)) : Type 0 where
  pub long : length lists ≡ 2 * F.vars + 2
  pub told : (v p : ℕ) → IsTrue (mentions (clause_at F p) v) → IsTrue (among (positions_of_variable lists v) p)
  pub only : (v p : ℕ) → IsTrue (among (positions_of_variable lists v) p) → IsTrue (mentions (clause_at F p) v)
