-- The command `extend`.
use Rattle.std.specs.Prelude.{◌≡◌, ℕ, List, [], ◌∷◌, ◌++◌, codes, ℤ, Option, Some, None, false, unwrap_or, IsTrue, ⊤}
use Rattle.lk_model.specs.Formulas.Formula.{Cnf}
use Rattle.lk_model.specs.Formulas.Assignment.{Assignment, assignment_of, extended, extended_value, extended_literals, IsModel}
use Rattle.lk_model.specs.Formulas.Crossed.{protected_by}
use Rattle.lk_model.specs.Formulas.Lean.{all_of}
use Rattle.lk_model.specs.Texts.PlainText.{line, literal_words}
use Rattle.lk_model.specs.Checks.Checks.{first_failure_to_extend}
use Rattle.lk_model.specs.Documents.KindWords.{refused_words}
use Rattle.lk_model.specs.declared.document.Document.{Document as AnyDocument}
use Rattle.lk_model.specs.declared.document.Document.TheVariants.{Done as Finished, Unfinished}
use Rattle.lk_model.specs.declared.document.DoneDocument.{DoneDocument}
use Rattle.lk_model.specs.declared.verdict.Why.{Why}
use Rattle.status_lines.specs.declared.status.Status.{Status}
use Rattle.status_lines.specs.declared.status.Status.TheVariants.{Done, Budget, Refused}

-- WHAT COMES OF A MODEL

-- the document is unfinished, or this is the first check that fails, or the model is extended by these literals
pub data Outcome : Type 0 where
  Open : Outcome
  Fails : Why → Outcome
  Extends : List ℤ → Outcome

-- a literal for each variable: it has the document's value where that sets the variable, else the model's, else it is false
abbrev pub extension : Cnf → DoneDocument → Assignment → List ℤ
extension F d ψ = extended_literals (assignment_of d.set) ψ F.vars

abbrev pub outcome_by : Cnf → DoneDocument → Assignment → Option Why → Outcome
outcome_by F d ψ (Some why) = Fails why
outcome_by F d ψ None = Extends (extension F d ψ)

abbrev pub outcome_of : Cnf → AnyDocument → Assignment → Outcome
outcome_of F (Finished d) ψ = outcome_by F d ψ (first_failure_to_extend F d ψ)
outcome_of F (Unfinished d) ψ = Open

abbrev pub outcome_status : Outcome → Status
outcome_status Open = Budget
outcome_status (Fails why) = Refused
outcome_status (Extends literals) = Done

-- the line of literals, as solvers print a model
abbrev pub model_line : List ℤ → List ℕ
model_line literals = line (codes "v" ∷ literal_words literals)

abbrev pub open_line : List ℕ
open_line = codes "leank: unfinished document\n"

abbrev pub failure_line : Why → List ℕ
failure_line why = codes "leank: " ++ line (refused_words why)

-- what is written
abbrev pub written_of : Outcome → List ℕ
written_of (Extends literals) = model_line literals
written_of _ = []

-- what is said
abbrev pub said_of : Outcome → List ℕ
said_of Open = open_line
said_of (Fails why) = failure_line why
said_of (Extends literals) = []

-- WHAT IS PROVED OF IT

-- The literals give each variable of the formula the stated value, and satisfy each clause. A protected variable keeps the
-- model's value, and is false where the model has none.
pub record IsExtended (F : Cnf) (d : DoneDocument) (ψ : Assignment) : Type 0 where
  pub values : assignment_of (extension F d ψ) ≡ extended (assignment_of d.set) ψ F.vars
  pub model : IsModel F (all_of F) (assignment_of (extension F d ψ))
  pub protected : (v : ℕ) → IsTrue (protected_by d.protect v) → extended_value (assignment_of d.set) ψ v ≡ unwrap_or (ψ v) false

abbrev pub IsProvedExtension : Cnf → AnyDocument → Assignment → Type 0
IsProvedExtension F (Finished d) ψ = first_failure_to_extend F d ψ ≡ None → IsExtended F d ψ
IsProvedExtension F (Unfinished d) ψ = ⊤

-- It writes the extended model, or says why there is none.
pub record Tells (F : Cnf) (d : AnyDocument) (ψ : Assignment) (status : Status) (written said : List ℕ) : Type 0 where
  pub status_is : status ≡ outcome_status (outcome_of F d ψ)
  pub writes : written ≡ written_of (outcome_of F d ψ)
  pub says : said ≡ said_of (outcome_of F d ψ)
  pub proved : IsProvedExtension F d ψ

-- it ends as `Tells` says, for the assignment that the literals of the model text give
abbrev pub Answers : Cnf → AnyDocument → List ℤ → Status → List ℕ → List ℕ → Type 0
Answers F d model = Tells F d (assignment_of model)

-- the status is that of the outcome
abbrev pub Decides : Cnf → AnyDocument → List ℤ → Status → Type 0
Decides F d model status = status ≡ outcome_status (outcome_of F d (assignment_of model))
