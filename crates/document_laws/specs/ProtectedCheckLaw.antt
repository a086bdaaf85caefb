-- The checks under a set P of protected variables, and those of the crossed document on the formula in which the literals
-- on P are left out.
use Rattle.std.specs.Prelude.{◌≡◌, ◌↔◌, ℕ, Bool, length, List, None, Option, IsTrue}
use Rattle.lk_model.specs.Formulas.Formula.{Cnf}
use Rattle.lk_model.specs.Formulas.Crossed.{Variables, no_variable, AreVariables, formula_without, protected_by, protect_line_of}
use Rattle.lk_model.specs.Held.VariableSets.{is_in}
use Rattle.lk_model.specs.Documents.Form.{is_protect_line}
use Rattle.lk_model.specs.Chains.Rounds.{names_within}
use Rattle.lk_model.specs.Checks.CommonChecks.{other_formula, kept_clause, protected_set}
use Rattle.lk_model.specs.Checks.RoundChecks.{every_clause}
use Rattle.lk_model.specs.Checks.Checks.{first_failure_under, AcceptsUnder, IsSoundUnder, HasProgressUnder}
use Rattle.lk_model.specs.declared.document.Round.{Round}
use Rattle.lk_model.specs.declared.document.DoneDocument.{DoneDocument}
use Rattle.lk_model.specs.declared.document.OpenDocument.{OpenDocument}
use Rattle.lk_model.specs.declared.document.Document.TheVariants.{Done, Unfinished}
use Rattle.document_laws.specs.Without.{document_without, open_without}

-- A set that code holds by a flag for each variable of the formula is one of variables of the formula, and so is that of a
-- protect line. The listed variables of the formula make such a line.
-- Where the numbers and the clause lines are those of the formula and the set line sets no variable of P, the first failure
-- under P is the first failure of the document with its clause lines crossed out, on the formula without P. So a document
-- that is accepted or sound under P is, crossed out, accepted or sound there; it has progress where the other has, and names
-- the same positions.
pub record ProtectedCheckLaw : Type 0 where
  pub flags : (F : Cnf) (flags : List Bool) → length flags ≡ F.vars → AreVariables F (is_in flags)
  pub line : (F : Cnf) (protect : Option (List ℕ)) → IsTrue (is_protect_line F.vars protect) → AreVariables F (protected_by protect)
  pub listed : (F : Cnf) (listed : Option (List ℕ)) → IsTrue (is_protect_line F.vars (protect_line_of F listed))
  pub done : (P : Variables) (F : Cnf) (d : DoneDocument) → AreVariables F P → (other_formula F d.vars d.clauses).place ≡ None
      → (kept_clause F d).place ≡ None → (protected_set P F d).place ≡ None
      → first_failure_under P F (Done d) ≡ first_failure_under no_variable (formula_without F P) (Done (document_without d P))
  pub unfinished : (P : Variables) (F : Cnf) (d : OpenDocument) → (other_formula F d.vars d.clauses).place ≡ None
      → (every_clause F d).place ≡ None
      → first_failure_under P F (Unfinished d) ≡ first_failure_under no_variable (formula_without F P) (Unfinished (open_without d P))
  pub accepted : (P : Variables) (F : Cnf) (d : DoneDocument) → AreVariables F P → AcceptsUnder P F d
      → AcceptsUnder no_variable (formula_without F P) (document_without d P)
  pub sound : (P : Variables) (F : Cnf) (d : OpenDocument) → IsSoundUnder P F d → IsSoundUnder no_variable (formula_without F P) (open_without d P)
  pub progress : (P : Variables) (F : Cnf) (d : OpenDocument) → HasProgressUnder P F d ↔ HasProgressUnder no_variable (formula_without F P) (open_without d P)
  pub names : (P : Variables) (F : Cnf) (part : List ℕ) (rounds : List Round) → names_within F part rounds ≡ names_within (formula_without F P) part rounds
