-- Refutations around one clause.
use Rattle.std.specs.Prelude.{◌≡◌, ℕ, ◌+◌, ◌≤◌, length}
use Rattle.lk_model.specs.Formulas.Crossed.{no_variable}
use Rattle.lk_model.specs.Formulas.Formula.{Cnf, positions_of}
use Rattle.lk_model.specs.Chains.Rounds.{used_positions}
use Rattle.lk_model.specs.declared.crossed.Crossed.{Crossed}
use Rattle.cdcl_core.specs.Decision.{IsRefutedOver}
use Rattle.crossed_copy.specs.Told.{Refutes}
use Rattle.crossed_copy.specs.declared.telling.CrossedRefutation.{CrossedRefutation}

-- a refutation of all clauses of a formula, with at most `budget` learned ones
pub record RefutesAll (F : Cnf) (budget : ℕ) (r : CrossedRefutation) : Type 0 where
  pub refutes : Refutes F no_variable (positions_of F) (length F.clauses) r
  pub most : length r.round.steps ≤ budget + 1

-- what clause learning over all clauses of the part could return, with the positions that it uses
pub record IsRefutedNear (over : Crossed) (next budget : ℕ) (r : CrossedRefutation) : Type 0 where
  pub refuted : IsRefutedOver over next budget (record { first = next; steps = r.round.steps })
  pub used : r.used ≡ used_positions over.formula.now r.round
