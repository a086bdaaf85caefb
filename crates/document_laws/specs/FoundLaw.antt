-- What a reducer finds on the formula without the protected variables, written with the clauses of the formula.
use Rattle.std.specs.Prelude.{◌≡◌, ℕ, List, Option, None, IsTrue}
use Rattle.lk_model.specs.declared.class.Class.{Class}
use Rattle.lk_model.specs.declared.class.Class.TheVariants as class
use Rattle.lk_model.specs.Formulas.Formula.{Cnf, is_formula, IsWithinLimits, positions_of}
use Rattle.lk_model.specs.Formulas.Crossed.{formula_without, protected_by}
use Rattle.lk_model.specs.Formulas.Assignment.{assignment_of}
use Rattle.lk_model.specs.Formulas.Protected.{SetsNone}
use Rattle.lk_model.specs.Documents.Form.{is_protect_line}
use Rattle.lk_model.specs.Checks.Checks.{IsSound, HasProgress}
use Rattle.lk_model.specs.Reduction.{Reduces}
use Rattle.lk_model.specs.declared.document.DoneDocument.{DoneDocument}
use Rattle.lk_model.specs.declared.document.OpenDocument.{OpenDocument}
use Rattle.lk_model.specs.declared.result.MatchingResult.{MatchingResult}
use Rattle.lk_model.specs.declared.result.GeneralResult.{GeneralResult}
use Rattle.lk_model.specs.Formulas.Formula.{clauses_at}
use Rattle.matching_laws.specs.MatchingResults.{IsMatchingResult, matching_document}
use Rattle.general_laws.specs.GeneralResults.{IsGeneralResult, general_document}

-- the document with a protect line and with the clause lines of the kept positions of F
abbrev pub written_for : Cnf → Option (List ℕ) → DoneDocument → DoneDocument
written_for F protect d = record d { protect = protect; texts = clauses_at F d.kept }

-- the unfinished document with a protect line and with the clause lines of F
abbrev pub open_written_for : Cnf → Option (List ℕ) → OpenDocument → OpenDocument
open_written_for F protect d = record d { protect = protect; texts = F }

-- F without the variables that a protect line protects
abbrev pub rest_of : Cnf → Option (List ℕ) → Cnf
rest_of F protect = formula_without F (protected_by protect)

-- A document without a protect line that reduces the formula without the protected variables, and sets none of them, reduces
-- the formula once it is written with the protect line and the clauses of the formula. The set line of a document that the
-- pure or the linear run gives sets none of them, nor does that of what the matching or the general reducer finds. An
-- unfinished document that is sound there is sound when it is so written.
pub record FoundLaw : Type 0 where
  pub reduces : (F : Cnf) (protect : Option (List ℕ)) (class : Class) (pivots : ℕ) (d : DoneDocument) → IsTrue (is_formula F) → IsWithinLimits F
      → IsTrue (is_protect_line F.vars protect) → d.protect ≡ None → SetsNone (protected_by protect) (assignment_of d.set)
      → Reduces (rest_of F protect) class pivots d → Reduces F class pivots (written_for F protect d)
  pub pure : (F : Cnf) (protect : Option (List ℕ)) (pivots : ℕ) (d : DoneDocument) → IsTrue (is_formula F) → IsWithinLimits F
      → IsTrue (is_protect_line F.vars protect) → d.protect ≡ None → Reduces (rest_of F protect) class.Pure pivots d
      → Reduces F class.Pure pivots (written_for F protect d)
  pub linear : (F : Cnf) (protect : Option (List ℕ)) (pivots : ℕ) (d : DoneDocument) → IsTrue (is_formula F) → IsWithinLimits F
      → IsTrue (is_protect_line F.vars protect) → d.protect ≡ None → Reduces (rest_of F protect) class.Linear pivots d
      → Reduces F class.Linear pivots (written_for F protect d)
  pub matching : (F : Cnf) (protect : Option (List ℕ)) (pivots : ℕ) (r : MatchingResult) → IsTrue (is_formula F) → IsWithinLimits F
      → IsTrue (is_protect_line F.vars protect) → IsMatchingResult (rest_of F protect) (positions_of (rest_of F protect)) r
      → Reduces F class.Matching pivots (written_for F protect (matching_document (rest_of F protect) r))
  pub general : (F : Cnf) (protect : Option (List ℕ)) (pivots : ℕ) (r : GeneralResult) → IsTrue (is_formula F) → IsWithinLimits F
      → IsTrue (is_protect_line F.vars protect) → IsGeneralResult (rest_of F protect) (positions_of (rest_of F protect)) r
      → Reduces F class.General pivots (written_for F protect (general_document (rest_of F protect) r))
  pub unfinished : (F : Cnf) (protect : Option (List ℕ)) (d : OpenDocument) → IsTrue (is_formula F) → IsWithinLimits F
      → IsTrue (is_protect_line F.vars protect) → d.protect ≡ None → IsSound (rest_of F protect) d → IsSound F (open_written_for F protect d)
  pub progress : (F : Cnf) (protect : Option (List ℕ)) (d : OpenDocument) → d.protect ≡ None → HasProgress (rest_of F protect) d
      → HasProgress F (open_written_for F protect d)
