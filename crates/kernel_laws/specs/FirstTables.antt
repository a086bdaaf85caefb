-- Tables of what the first of some lines with a key has.
use Rattle.std.specs.Prelude.{◌≡◌, ◌≤◌, ◌-◌, ℕ, ◌==◌, List, length, find, slice_index_or}
use Rattle.std.specs.Option.{option_map_or}

-- For each key from 1 to size the table has the entry of the first line with that key, or `none`.
pub record IsFirstTable {X Y : Type 0} (size : ℕ) (key : X → ℕ) (entry : X → Y) (outside none : Y) (lines : List X) (table : List Y) : Type 0 where
  pub size_is : length table ≡ size
  pub told : (k : ℕ) → 1 ≤ k → k ≤ size
      → slice_index_or table (k - 1) outside ≡ option_map_or entry (find (λ (x : X). key x == k) lines) none
