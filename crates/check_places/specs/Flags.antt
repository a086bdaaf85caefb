-- Flags of positions, and of literals.
use Rattle.std.specs.Prelude.{ℕ, ◌-◌, Bool, false, List, ℤ, slice_index_or}
use Rattle.lk_model.specs.Formulas.Literal.{rank_of}

-- the flag of a position, which counts from 1
abbrev pub is_flagged : List Bool → ℕ → Bool
is_flagged flags p = slice_index_or flags (p - 1) false

-- the flag of a literal, at its rank
abbrev pub has_literal : List Bool → ℤ → Bool
has_literal flags l = slice_index_or flags (rank_of l) false
