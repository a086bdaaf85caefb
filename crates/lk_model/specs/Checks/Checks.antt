-- The order of the checks, the first failure, and the documents that have none. The checks of a document are those under
-- the set of its protected variables: a variable of the kept clauses is one outside this set.
use Rattle.std.specs.Prelude.{◌≡◌, List, [], ◌∷◌, ◌++◌, Option, None, IsTrue}
use Rattle.lk_model.specs.Formulas.Formula.{Cnf, positions_of}
use Rattle.lk_model.specs.Formulas.Assignment.{Assignment}
use Rattle.lk_model.specs.Formulas.Crossed.{Variables, protected_by}
use Rattle.lk_model.specs.Chains.Rounds.{has_progress}
use Rattle.lk_model.specs.Documents.Form.{is_done_in_form, is_open_in_form}
use Rattle.lk_model.specs.Checks.Check.{Check, first_of}
use Rattle.lk_model.specs.Checks.CommonChecks.{other_formula, kept_clause, protected_set, not_autarky, not_exactly_removed, model_fails}
use Rattle.lk_model.specs.Checks.PureChecks.{bad_order, bad_pair}
use Rattle.lk_model.specs.Checks.MatchingChecks.{bad_owner, bad_row}
use Rattle.lk_model.specs.Checks.LinearChecks.{bad_sign, bad_stage, bad_dual, bad_balance, bad_unit}
use Rattle.lk_model.specs.Checks.RoundChecks.{bad_step, not_blocked, every_clause, bad_count, not_learned}
use Rattle.lk_model.specs.declared.document.Body.{Body}
use Rattle.lk_model.specs.declared.document.Body.TheVariants.{Pure, Matching, Linear, General}
use Rattle.lk_model.specs.declared.document.DoneDocument.{DoneDocument}
use Rattle.lk_model.specs.declared.document.OpenDocument.{OpenDocument}
use Rattle.lk_model.specs.declared.document.Document.{Document}
use Rattle.lk_model.specs.declared.document.Document.TheVariants.{Done, Unfinished}
use Rattle.lk_model.specs.declared.verdict.Why.{Why}

-- UNDER A SET P

abbrev pub first_five : Variables → Cnf → DoneDocument → List Check
first_five P F d = other_formula F d.vars d.clauses ∷ kept_clause F d ∷ protected_set P F d ∷ not_autarky F d ∷ not_exactly_removed F d ∷ []

abbrev pub class_checks : Variables → Cnf → DoneDocument → Body → List Check
class_checks P F d (Pure order pairs) = bad_order F d order ∷ bad_pair P F d pairs ∷ []
class_checks P F d (Matching own rows) = bad_owner F d own ∷ bad_row P F d rows ∷ []
class_checks P F d (Linear stages dual units) =
    bad_sign F d stages ∷ bad_stage F d stages ∷ bad_dual F d dual ∷ bad_balance P F d dual ∷ bad_unit P F d units ∷ []
class_checks P F d (General rounds) = bad_step P F d.kept rounds ∷ not_blocked P F d rounds ∷ []

abbrev pub checks_under : Variables → Cnf → Document → List Check
checks_under P F (Done d) = first_five P F d ++ class_checks P F d d.body
checks_under P F (Unfinished d) = other_formula F d.vars d.clauses ∷ every_clause F d ∷ bad_count d
    ∷ bad_step P F (positions_of F) d.rounds ∷ not_learned P F (positions_of F) d.rounds ∷ []

unfoldable pub first_failure_under : Variables → Cnf → Document → Option Why
first_failure_under P F d = first_of (checks_under P F d)

-- of `extend`, for each class
unfoldable pub first_failure_to_extend_under : Variables → Cnf → DoneDocument → Assignment → Option Why
first_failure_to_extend_under P F d ψ = first_of (first_five P F d ++ model_fails F d ψ ∷ [])

-- a finished document in form that no check refuses
pub record AcceptsUnder (P : Variables) (F : Cnf) (d : DoneDocument) : Type 0 where
  pub form : IsTrue (is_done_in_form d)
  pub checks : first_failure_under P F (Done d) ≡ None

-- an unfinished document in form that no check refuses
pub record IsSoundUnder (P : Variables) (F : Cnf) (d : OpenDocument) : Type 0 where
  pub form : IsTrue (is_open_in_form d)
  pub checks : first_failure_under P F (Unfinished d) ≡ None

-- each whole round of it blocks a variable that was not blocked before; before the first round those of P are blocked
abbrev pub HasProgressUnder : Variables → Cnf → OpenDocument → Type 0
HasProgressUnder P F d = IsTrue (has_progress F P d.rounds)

-- UNDER THE PROTECTED VARIABLES OF THE DOCUMENT

-- the protected variables of a document
abbrev pub protected_in : Document → Variables
protected_in (Done d) = protected_by d.protect
protected_in (Unfinished d) = protected_by d.protect

abbrev pub first_failure : Cnf → Document → Option Why
first_failure F d = first_failure_under (protected_in d) F d

abbrev pub first_failure_to_extend : Cnf → DoneDocument → Assignment → Option Why
first_failure_to_extend F d ψ = first_failure_to_extend_under (protected_by d.protect) F d ψ

abbrev pub Accepts : Cnf → DoneDocument → Type 0
Accepts F d = AcceptsUnder (protected_by d.protect) F d

abbrev pub IsSound : Cnf → OpenDocument → Type 0
IsSound F d = IsSoundUnder (protected_by d.protect) F d

abbrev pub HasProgress : Cnf → OpenDocument → Type 0
HasProgress F d = HasProgressUnder (protected_by d.protect) F d
