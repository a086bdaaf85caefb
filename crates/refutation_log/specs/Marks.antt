-- Marks of numbers.
use Rattle.std.specs.Prelude.{◌≡◌, ℕ, ◌+◌, ◌<◌, ◌≤◌, false, List, [], length, map, slice_index_or}
use Rattle.lk_model.specs.Lists.{among}
use Rattle.lk_model.specs.Chains.Chain.{names_of}
use Rattle.lk_model.specs.declared.document.Step.{Step}
use Rattle.refutation_log.specs.declared.reach.Marks.{Marks}

-- Marked are the numbers of a list, as far as they are positions below the bound or numbers of steps.
pub record AreMarks (known : List ℕ) (marks : Marks) : Type 0 where
  pub apart : length marks.positions.items ≤ marks.first
  pub positions : (k : ℕ) → k < length marks.positions.items → slice_index_or marks.positions.items k false ≡ among known k
  pub steps : (k : ℕ) → k < length marks.steps.items → slice_index_or marks.steps.items k false ≡ among known (marks.first + k)

-- marks of the same numbers
pub record HaveSameShape (before after : Marks) : Type 0 where
  pub first : after.first ≡ before.first
  pub positions : length after.positions.items ≡ length before.positions.items
  pub steps : length after.steps.items ≡ length before.steps.items

-- marks of the numbers below a bound, and of `count` numbers from the first one on
pub record HaveShape (bound first count : ℕ) (marks : Marks) : Type 0 where
  pub first_is : marks.first ≡ first
  pub positions : length marks.positions.items ≡ bound
  pub steps : length marks.steps.items ≡ count

-- what the chain of the step at a place names
abbrev pub names_at : List Step → ℕ → List ℕ
names_at steps at = slice_index_or (map names_of steps) at []
