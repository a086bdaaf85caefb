-- A document that the checks accept is a reduction of the formula, with any protected variables.
use Rattle.std.proofs.Common.{◌≡◌, ℕ, true, not, List, refl, sym, ◌∙◌, ap, subst, IsTrue}
use Rattle.lk_model.specs.declared.class.Class.{Class}
use Rattle.lk_model.specs.declared.class.Class.TheVariants.{Pure, Matching, Linear, General}
use Rattle.lk_model.specs.Lists.{among}
use Rattle.lk_model.specs.Formulas.Formula.{Cnf, is_formula, clause_at}
use Rattle.lk_model.specs.Formulas.Crossed.{Variables, no_variable, AreVariables, formula_without}
use Rattle.lk_model.specs.Formulas.Assignment.{Assignment, assignment_of, touches}
use Rattle.lk_model.specs.Formulas.Autarky.{Positions, IsClassAutarky}
use Rattle.lk_model.specs.Formulas.Lean.{all_of}
use Rattle.lk_model.specs.Formulas.Protected.{SetsNone, ReducesBy}
use Rattle.lk_model.specs.Documents.Documents.{class_of}
use Rattle.lk_model.specs.Checks.Checks.{AcceptsUnder}
use Rattle.lk_model.specs.Reduction.{IsReductionUnder}
use Rattle.lk_model.specs.declared.document.DoneDocument.{DoneDocument}
use Rattle.lk_model.proofs.Crossings.{formula_form}
use Rattle.kernel_laws.specs.Accepted.{AcceptedReduces}
use Rattle.kernel_laws.proofs.Extensions.{models_by}
use Rattle.kernel_laws.proofs.Passed.{has_passed, accepted_form}
use Rattle.kernel_laws.proofs.Reductions.{class_satisfies, kernel_plain}
use Rattle.pure_laws.proofs.PureLaws.{pure_law}
use Rattle.matching_laws.proofs.MatchingLaws.{matching_law}
use Rattle.linear_laws.proofs.LinearAccepted.{linear_law}
use Rattle.general_laws.proofs.GeneralLaws.{general_law}
use Rattle.document_laws.specs.Without.{document_without}
use Rattle.document_laws.specs.AcceptedLaw.{AcceptedLaw}
use Rattle.document_laws.proofs.Autarkies.{touched_without, from_without, same_all, kernel_from}
use Rattle.document_laws.proofs.Commons.{set_unset}
use Rattle.document_laws.proofs.ProtectedCheckLaws.{line_within, accepted_without}

-- a reduction of the formula without P, by an assignment that sets none of P, is one of the formula under P
pub reduction_by : (P : Variables) (class : Class) (F : Cnf) (kept : List ℕ) (φ : Assignment) → is_formula F ≡ true → SetsNone P φ
    → ReducesBy no_variable class (formula_without F P) kept φ → ReducesBy P class F kept φ
reduction_by P class F kept φ form none r =
    let autarky : IsClassAutarky class F (all_of F) φ =
    subst (λ (S : Positions). IsClassAutarky class F S φ) (same_all F P) (from_without P class F (all_of (formula_without F P)) φ none r.autarky.1) in
    record {
      kernel = kernel_from P class F kept (kernel_plain class (formula_without F P) kept r.kernel);
      autarky = (none, autarky);
      touched = touched;
      models = models_by F kept φ form (class_satisfies class F (all_of F) φ form autarky) touched;
    }
  where
    touched : (p : ℕ) → IsTrue (all_of F p) → touches φ (clause_at F p) ≡ not (among kept p)
    touched p within = sym (touched_without P F φ p none) ∙ r.touched p (ap (λ (S : Positions). S p) (same_all F P) ∙ within)

-- what the laws of the classes say
accepted_of : (class : Class) → AcceptedReduces class
accepted_of Pure = pure_law.accepted
accepted_of Matching = matching_law.accepted
accepted_of Linear = linear_law.accepted
accepted_of General = general_law.accepted

-- so it holds under P
accepted_under : (P : Variables) (F : Cnf) (d : DoneDocument) → is_formula F ≡ true → AreVariables F P → AcceptsUnder P F d → IsReductionUnder P F d
accepted_under P F d form vars a =
    reduction_by P (class_of d.body) F d.kept (assignment_of d.set) form (set_unset P F d vars (has_passed P F d a.checks).unset)
    (accepted_of (class_of d.body) (formula_without F P) (document_without d P) (formula_form P F form) refl (accepted_without P F d vars a))

-- all of it
pub accepted_law : AcceptedLaw
accepted_law = record {
  under = accepted_under;
  reduces = λ F d form a. accepted_under _ F d form (line_within F d.protect (accepted_form _ F d a).protect) a;
}
