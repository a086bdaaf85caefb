-- The matching kernel of live clauses.
use Rattle.std.specs.Prelude.{◌≡◌, ℕ, List, map}
use Rattle.lk_model.specs.declared.class.Class.TheVariants as class
use Rattle.lk_model.specs.Formulas.Lean.{Kernel}
use Rattle.edit_text.specs.LiveClauses.{LiveClauses, live_formula, number_at}

-- the numbers of the live clauses that the matching kernel of their formula keeps
pub record IsLiveKernel (s : LiveClauses) (numbers : List ℕ) : Type 0 where
  pub kept : List ℕ
  pub kernel : Kernel class.Matching (live_formula s) kept
  pub are : numbers ≡ map (number_at s.live) kept
