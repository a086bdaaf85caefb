-- A clause that grows, with a flag for each literal.
use Rattle.std.specs.Prelude.{◌≡◌, ◌≤◌, ℕ, ◌+◌, ◌*◌, Bool, false, List, length, take, ℤ, IsTrue, slice_index_or}
use Rattle.lk_model.specs.Formulas.Literal.{contains, is_clause, is_literal}
use Rattle.lk_model.specs.Limits.{max_vars}
use Rattle.lk_model.specs.Formulas.Literal.{rank_of}

-- the literals so far, over the variables from 1 to a number
pub record Growing : Type 0 where
  pub vars : ℕ
  pub literals : List ℤ

-- the flag at the rank of a literal tells whether it is among the literals
pub record AreFlagged (vars : ℕ) (literals : List ℤ) (flags : List Bool) : Type 0 where
  pub small : vars ≤ max_vars
  pub clause : IsTrue (is_clause vars literals)
  pub size : length flags ≡ 2 * vars + 2
  pub told : (l : ℤ) → IsTrue (is_literal vars l) → slice_index_or flags (rank_of l) false ≡ contains literals l

-- the literals make a clause, and the flags are those of the first ones
pub record IsHeld (vars : ℕ) (literals : List ℤ) (flagged : ℕ) (flags : List Bool) : Type 0 where
  pub clause : IsTrue (is_clause vars literals)
  pub few : flagged ≤ length literals
  pub told : AreFlagged vars (take flagged literals) flags
