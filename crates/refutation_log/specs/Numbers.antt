-- The new numbers of kept steps, and the numbers that chains name.
use Rattle.std.specs.Prelude.{◌≡◌, ℕ, ◌+◌, ◌-◌, ◌<◌, Bool, if◌then◌else◌, nat_lt, List, length, take, count_by, slice_index, slice_index_or, false}
use Rattle.std.specs.List.{list_any}
use Rattle.lk_model.specs.Lists.{among}
use Rattle.lk_model.specs.Chains.Chain.{names_of}
use Rattle.lk_model.specs.declared.document.Step.{Step}

-- the new number of a number, by a table for the steps from `first` on
abbrev pub number_by_table : ℕ → List ℕ → ℕ → ℕ
number_by_table first numbers k = if nat_lt k first then k else slice_index numbers (k - first)

-- the step has a mark among those of the steps from `first` on
abbrev pub is_marked : ℕ → List Bool → Step → Bool
is_marked first marks s = slice_index_or marks (s.number - first) false

-- each number is `next` and as many as are kept before it
pub record AreNewNumbers (kept : List Bool) (next : ℕ) (numbers : List ℕ) : Type 0 where
  pub count : length numbers ≡ length kept
  pub each : (i : ℕ) → i < length kept → slice_index numbers i ≡ next + count_by (λ b. b) (take i kept)

-- the chain of one of the steps names the number
abbrev pub is_named : List Step → ℕ → Bool
is_named steps k = list_any (λ (s : Step). among (names_of s) k) steps
