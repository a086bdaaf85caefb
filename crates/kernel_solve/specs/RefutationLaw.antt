-- What a refutation shows, and what is learned over a part.
use Rattle.std.specs.Prelude.{ℕ, ◌^◌, ◌<◌, List, [], ◌∷◌, length, IsTrue}
use Rattle.lk_model.specs.declared.class.Class.TheVariants.{General}
use Rattle.lk_model.specs.Lists.{among}
use Rattle.lk_model.specs.Formulas.Formula.{Cnf, is_formula, positions_of}
use Rattle.lk_model.specs.Formulas.Autarky.{Within}
use Rattle.lk_model.specs.Formulas.Crossed.{no_variable}
use Rattle.lk_model.specs.Formulas.Lean.{Kernel, are_positions}
use Rattle.lk_model.specs.Formulas.Minimal.{IsUnsatisfiable}
use Rattle.lk_model.specs.Chains.Rounds.{used_positions}
use Rattle.lk_model.specs.Checks.RoundChecks.{learned_steps, IsRefutation}
use Rattle.lk_model.specs.declared.document.Round.{Round}
use Rattle.general_laws.specs.ForeignLaw.{IsAmongForeign}
use Rattle.general_laws.specs.OpenResults.{IsOpenResult}

-- Clauses that a round refutes have no model, and it refutes any more clauses too. Where it refutes a formula, the positions
-- that it uses are in the general kernel. What open rounds learn over a part they learn over the whole formula, if each other
-- clause has a variable that the part does not have. One round learns fewer than 3^n clauses.
pub record SolveRefutationLaw : Type 0 where
  pub no_model : (F : Cnf) (part : List ℕ) (r : Round) → IsRefutation F part r → IsUnsatisfiable F (among part)
  pub wider : (F : Cnf) (part other : List ℕ) (r : Round) → Within (among part) (among other) → IsRefutation F part r → IsRefutation F other r
  pub used : (F : Cnf) (kept : List ℕ) (r : Round) → IsRefutation F (positions_of F) r → Kernel General F kept
      → Within (among (used_positions F r)) (among kept)
  pub whole : (F : Cnf) (part : List ℕ) (rounds : List Round) → IsTrue (are_positions F part) → IsAmongForeign no_variable F part
      → IsOpenResult F part rounds → IsOpenResult F (positions_of F) rounds
  pub few : (F : Cnf) (part : List ℕ) (r : Round) → IsTrue (is_formula F) → IsOpenResult F part (r ∷ [])
      → length (learned_steps (r ∷ [])) < 3 ^ F.vars
