-- Which positions are kept, by a flag for each.
use Rattle.std.specs.Prelude.{◌≡◌, ℕ, Bool, List, length, IsTrue}
use Rattle.lk_model.specs.Lists.{among, is_between}
pub use Rattle.check_places.specs.Flags.{is_flagged}

-- the flags of the positions 1 to m tell which of them are kept
pub record AreKeptFlags (m : ℕ) (kept : List ℕ) (flags : List Bool) : Type 0 where
  pub size : length flags ≡ m
  pub told : (p : ℕ) → IsTrue (is_between 1 m p) → is_flagged flags p ≡ among kept p
