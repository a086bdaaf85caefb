-- A line in an array of 64 bytes.
use Rattle.std.specs.Prelude.{◌≡◌, ◌≤◌, ℕ, ◌-◌, List, length, drop, replicate}

-- the bytes behind the first ones are 0
pub record IsLine (bytes : List ℕ) (len : ℕ) : Type 0 where
  pub size : length bytes ≡ 64
  pub within : len ≤ 64
  pub zeros : drop len bytes ≡ replicate (64 - len) 0
