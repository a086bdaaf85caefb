-- What a refutation by one round uses.
use Rattle.std.specs.Prelude.{ℕ, List}
use Rattle.lk_model.specs.declared.class.Class.TheVariants.{General}
use Rattle.lk_model.specs.Lists.{among}
use Rattle.lk_model.specs.Formulas.Formula.{Cnf, positions_of}
use Rattle.lk_model.specs.Formulas.Autarky.{Within}
use Rattle.lk_model.specs.Formulas.Lean.{Kernel}
use Rattle.lk_model.specs.Chains.Rounds.{used_positions}
use Rattle.lk_model.specs.declared.document.Round.{Round}
use Rattle.lk_model.specs.Checks.RoundChecks.{IsRefutation}

-- A round that refutes the clauses at some positions refutes those at more positions too. Where it refutes a formula, the
-- positions that it uses are in the general kernel, also if some of its steps are not needed.
pub record UsedLaw : Type 0 where
  pub wider : (F : Cnf) (part other : List ℕ) (r : Round) → Within (among part) (among other) → IsRefutation F part r → IsRefutation F other r
  pub used : (F : Cnf) (kept : List ℕ) (r : Round) → IsRefutation F (positions_of F) r → Kernel General F kept → Within (among (used_positions F r)) (among kept)
