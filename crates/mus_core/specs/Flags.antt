-- Flags of places.
use Rattle.std.specs.Prelude.{ℕ, Bool, false, List, slice_index_or}

-- whether the flag of a number is set
abbrev pub flag_at : List Bool → ℕ → Bool
flag_at flags k = slice_index_or flags k false
