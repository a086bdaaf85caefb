-- What a reducer finds, and the document that states it.
use Rattle.std.specs.Prelude.{◌≡◌, ℕ, List, length, Option, Ok, IsTrue, ⊤}
use Rattle.lk_model.specs.Formulas.Formula.{Cnf, is_formula, IsWithinLimits, clauses_at}
use Rattle.lk_model.specs.Formulas.Lean.{are_positions}
use Rattle.lk_model.specs.Documents.Form.{is_protect_line}
use Rattle.lk_model.specs.Reduction.{Reduces}
use Rattle.lk_model.specs.declared.class.Class.{Class}
use Rattle.lk_model.specs.declared.class.Class.TheVariants.{General}
use Rattle.lk_model.specs.declared.document.Body.{Body}
use Rattle.lk_model.specs.declared.document.Body.TheVariants as body
use Rattle.lk_model.specs.declared.document.DoneDocument.{DoneDocument}
use Rattle.lk_model.specs.declared.document.OpenDocument.{OpenDocument}
use Rattle.lk_model.specs.declared.document.Round.{Round}
use Rattle.lk_model.specs.declared.result.LinearResult.{LinearResult}
use Rattle.lk_model.specs.Formulas.Crossed.{no_variable}
use Rattle.lk_model.specs.Chains.Rounds.{AreNeeded}
use Rattle.document_laws.specs.FoundLaw.{rest_of}
use Rattle.lk_model.specs.Chains.Budgets.{AreWithinBudget}
use Rattle.part_kernels.specs.ByParts.{IsFirstUnfinished}
use Rattle.linear_kernel.specs.Answers.{AnswersRun}
use Rattle.reductions.specs.declared.document.Found.{Found}
use Rattle.reductions.specs.declared.find.GeneralStop.{GeneralStop}
use Rattle.reductions.specs.declared.find.GeneralStop.TheVariants.{Unfinished, OutOfMemory}
use Rattle.lk_model.specs.Documents.Documents.{rounds_in}

-- the document with this protect line, and with the clauses of the formula at the kept positions
abbrev pub document_of : Cnf → Option (List ℕ) → Found → DoneDocument
document_of F protect found = record {
  vars = F.vars;
  clauses = length F.clauses;
  protect = protect;
  kept = found.kept;
  set = found.set;
  body = found.body;
  texts = clauses_at F found.kept;
}

-- the unfinished document with this protect line, of `learned` learned clauses in these rounds, with all clauses of F
abbrev pub open_document_of : Cnf → Option (List ℕ) → ℕ → List Round → OpenDocument
open_document_of F protect learned rounds = record {
  vars = F.vars;
  clauses = length F.clauses;
  protect = protect;
  learned = learned;
  rounds = rounds;
  texts = F;
}

-- Stated as a document, what is found reduces each formula of which `rest` is what is left without the protected
-- variables, and so the formula itself where none is protected.
abbrev pub TellsReduction : Class → ℕ → Cnf → Found → Type 0
TellsReduction class pivots rest found = (F : Cnf) (protect : Option (List ℕ)) → IsTrue (is_formula F) → IsWithinLimits F → IsTrue (is_protect_line F.vars protect)
    → rest_of F protect ≡ rest → Reduces F class pivots (document_of F protect found)

-- stated as a document, what is found reduces these formulas whatever the number of pivots
pub record IsFoundFor (class : Class) (rest : Cnf) (found : Found) : Type 0 where
  pub positions : IsTrue (are_positions rest found.kept)
  pub reduces : (pivots : ℕ) → TellsReduction class pivots rest found

-- LINEAR

-- the size of the rows fits, and the linear run with at most `pivots` pivots ends done
abbrev pub EndsDone : Cnf → ℕ → Type 0
EndsDone rest pivots = (r : LinearResult) × AnswersRun rest pivots (Ok r)

-- GENERAL

-- the general kernel, by rounds of which nothing is needless, with at most `conflicts` learned clauses for each part
pub record IsKernelFound (rest : Cnf) (conflicts : ℕ) (found : Found) : Type 0 where
  pub kernel : IsFoundFor General rest found
  pub needed : AreNeeded rest no_variable (rounds_in found.body)
  pub budget : AreWithinBudget no_variable rest conflicts (rounds_in found.body)

-- these are the rounds of the first part that is not finished; there may be no memory at any time
abbrev pub IsStopOf : Cnf → ℕ → GeneralStop → Type 0
IsStopOf rest conflicts (Unfinished rounds) = IsFirstUnfinished rest conflicts rounds
IsStopOf rest conflicts OutOfMemory = ⊤
