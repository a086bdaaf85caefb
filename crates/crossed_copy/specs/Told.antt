-- Refutations of crossed clauses, with what they use.
use Rattle.std.specs.Prelude.{◌≡◌, ℕ, List, length}
use Rattle.lk_model.specs.Formulas.Formula.{Cnf}
use Rattle.lk_model.specs.Formulas.Crossed.{Variables}
use Rattle.lk_model.specs.Held.VariableSets.{is_in}
use Rattle.lk_model.specs.Chains.Rounds.{used_positions}
use Rattle.lk_model.specs.declared.crossed.Crossed.{Crossed}
use Rattle.renaming_laws.specs.CrossedCopies.{IsCrossedRefutation}
use Rattle.crossed_copy.specs.declared.telling.CrossedRefutation.{CrossedRefutation}

-- a refutation with steps numbered from last + 1 on, and the positions that it uses
pub record Refutes (F : Cnf) (b : Variables) (part : List ℕ) (last : ℕ) (r : CrossedRefutation) : Type 0 where
  pub refutation : IsCrossedRefutation F b part last r.round.steps
  pub used : r.used ≡ used_positions F r.round

-- what is restated for the part, with as many steps
pub record IsTold (over : Crossed) (last : ℕ) (r told : CrossedRefutation) : Type 0 where
  pub refutes : Refutes over.formula.now (is_in over.blocked.now) over.part.now last told
  pub count : length told.round.steps ≡ length r.round.steps
