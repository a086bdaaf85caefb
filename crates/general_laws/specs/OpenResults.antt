-- What the general reducer has where it stops, and the document that states it.
use Rattle.std.specs.Prelude.{◌≡◌, ℕ, ◌^◌, ◌<◌, List, length, None, IsTrue}
use Rattle.lk_model.specs.Formulas.Formula.{Cnf, is_formula, IsWithinLimits}
use Rattle.lk_model.specs.Formulas.Crossed.{no_variable}
use Rattle.lk_model.specs.Formulas.Lean.{are_positions}
use Rattle.lk_model.specs.Chains.Rounds.{has_progress, names_within}
use Rattle.lk_model.specs.Documents.Documents.{steps_of}
use Rattle.lk_model.specs.Documents.Form.{are_steps, end_open}
use Rattle.lk_model.specs.Checks.RoundChecks.{bad_step, not_learned, learned_steps}
use Rattle.lk_model.specs.Checks.Checks.{IsSound, HasProgress}
use Rattle.lk_model.specs.declared.document.Round.{Round}
use Rattle.lk_model.specs.declared.document.OpenDocument.{OpenDocument}
use Rattle.general_laws.specs.JoinLaw.{IsApart}

-- whole rounds and an open one, over the positions of a part
pub record IsOpenResult (F : Cnf) (part : List ℕ) (rounds : List Round) : Type 0 where
  pub steps : IsTrue (are_steps F.vars (length F.clauses) (steps_of rounds))
  pub ends : IsTrue (end_open rounds)
  pub stated : (bad_step no_variable F part rounds).place ≡ None
  pub learned : (not_learned no_variable F part rounds).place ≡ None
  pub progress : IsTrue (has_progress F no_variable rounds)

-- the unfinished document of the rounds, without protected variables
abbrev pub open_document : Cnf → List Round → OpenDocument
open_document F rounds = record {
  vars = F.vars;
  clauses = length F.clauses;
  protect = None;
  learned = length (learned_steps rounds);
  rounds = rounds;
  texts = F;
}

-- The document of rounds over a part that shares no variable with the other positions is sound for the whole formula and
-- has progress, and its chains name positions of the part alone.
pub record OpenResultLaw : Type 0 where
  pub sound : (F : Cnf) (part : List ℕ) (rounds : List Round) → IsTrue (is_formula F) → IsWithinLimits F → IsTrue (are_positions F part)
      → IsApart F part → IsOpenResult F part rounds → length (learned_steps rounds) < 2 ^ 63 → IsSound F (open_document F rounds)
  pub progress : (F : Cnf) (part : List ℕ) (rounds : List Round) → IsOpenResult F part rounds → HasProgress F (open_document F rounds)
  pub names : (F : Cnf) (part : List ℕ) (rounds : List Round) → IsOpenResult F part rounds → IsTrue (names_within F part rounds)
