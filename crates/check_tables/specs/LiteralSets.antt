-- Sets of literals, by a flag at the rank of each.
use Rattle.std.specs.Prelude.{◌≡◌, ◌≤◌, ℕ, ◌+◌, ◌*◌, Bool, false, true, not, List, filter, length, ℤ, IsTrue, slice_set}
use Rattle.lk_model.specs.Formulas.Literal.{contains, is_literal, rank_of}
pub use Rattle.check_places.specs.Flags.{has_literal}

abbrev pub with_literal : List Bool → ℤ → List Bool
with_literal flags l = slice_set flags (rank_of l) true

abbrev pub without_literal : List Bool → ℤ → List Bool
without_literal flags l = slice_set flags (rank_of l) false

-- the list without the literals of another one
abbrev pub less : List ℤ → List ℤ → List ℤ
less c d = filter (λ l. not (contains d l)) c

-- of the literals over the variables from 1 to n, the set has those of the list
pub record IsSetOf (n : ℕ) (ls : List ℤ) (flags : List Bool) : Type 0 where
  pub small : n ≤ 1000000
  pub size : length flags ≡ 2 * n + 2
  pub told : (l : ℤ) → IsTrue (is_literal n l) → has_literal flags l ≡ contains ls l
