-- Chains in the form of documents.
use Rattle.std.specs.Prelude.{ℕ, ◌+◌, ◌^◌, ◌<◌, ◌≤◌, IsTrue, List, length}
use Rattle.std.specs.List.{list_all}
use Rattle.lk_model.specs.Formulas.Formula.{is_formula}
use Rattle.lk_model.specs.Held.VariableSets.{IsCrossed}
use Rattle.lk_model.specs.Documents.Form.{is_step}
use Rattle.lk_model.specs.declared.crossed.Crossed.{Crossed}
use Rattle.lk_model.specs.declared.document.Step.{Step}
use Rattle.refutation_log.specs.Derivation.{IsDerivation, are_chains}

-- Steps that are chains over a formula, and whose numbers fit, have a document's form.
abbrev pub FormLaw : Type 0
FormLaw = (over : Crossed) (first : ℕ) (steps : List Step) → IsCrossed over → IsTrue (is_formula over.formula.now)
    → length over.formula.now.clauses < first → first + length steps ≤ 2 ^ 64 → IsDerivation first steps
    → IsTrue (are_chains over steps) → IsTrue (list_all (is_step over.formula.now.vars) steps)
