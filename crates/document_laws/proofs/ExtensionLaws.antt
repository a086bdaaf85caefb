-- Models of the kept clauses extend.
use Rattle.std.proofs.Common.{◌≡◌, ℕ, Bool, true, false, not, ◌++◌, cond, [], ◌∷◌, ap, None, unwrap_or}
use Rattle.std.proofs.lemmas.Bool.{not-false}
use Rattle.lk_model.specs.Lists.{among}
use Rattle.lk_model.specs.Formulas.Formula.{Cnf, clause_at, is_formula}
use Rattle.lk_model.specs.Formulas.Crossed.{Variables}
use Rattle.lk_model.specs.Formulas.Assignment.{Assignment, assignment_of, satisfies, extended, extended_value, IsModel}
use Rattle.lk_model.specs.Formulas.Lean.{all_of}
use Rattle.lk_model.specs.Formulas.Protected.{SetsNone}
use Rattle.lk_model.specs.Checks.CommonChecks.{model_fails}
use Rattle.lk_model.specs.Checks.Checks.{first_five, first_failure_to_extend_under}
use Rattle.lk_model.specs.declared.document.DoneDocument.{DoneDocument}
use Rattle.kernel_laws.proofs.Lines.{none_among}
use Rattle.kernel_laws.proofs.Extensions.{models_by}
use Rattle.kernel_laws.proofs.Passed.{none_fails, set_autarky, exactly_removed}
use Rattle.kernel_laws.proofs.Reductions.{class_satisfies}
use Rattle.document_laws.specs.ExtensionLaw.{ExtensionLaw}

-- a variable of P keeps its value in the model
keeps_value : (P : Variables) (φ ψ : Assignment) → SetsNone P φ → (v : ℕ) → P v ≡ true → extended_value φ ψ v ≡ unwrap_or (ψ v) false
keeps_value P φ ψ none v y = ap (λ (b : Bool). unwrap_or (cond b (φ v) (ψ v)) false) (none v y)

-- where no kept clause fails, the model satisfies each
model_of_kept : (F : Cnf) (d : DoneDocument) (ψ : Assignment) → (model_fails F d ψ).place ≡ None → IsModel F (among d.kept) ψ
unfolding model_fails
model_of_kept F d ψ none p m = not-false (satisfies ψ (clause_at F p)) (none_among (λ p. not (satisfies ψ (clause_at F p))) d.kept p none m)

-- so a model that the checks of an extension accept extends
checked_extends : (P : Variables) (F : Cnf) (d : DoneDocument) (ψ : Assignment) → is_formula F ≡ true → first_failure_to_extend_under P F d ψ ≡ None
    → IsModel F (all_of F) (extended (assignment_of d.set) ψ F.vars)
unfolding first_failure_to_extend_under
checked_extends P F d ψ form e =
    let h = none_fails (first_five P F d ++ model_fails F d ψ ∷ []) e in
    models_by F d.kept (assignment_of d.set) form (set_autarky F d h.1.1.1.0) (exactly_removed F d h.1.1.1.1.0) ψ (model_of_kept F d ψ h.1.1.1.1.1.0)

-- all of it
pub extension_law : ExtensionLaw
extension_law = record {
  autarky = class_satisfies;
  models = λ P c F kept φ form a touched. models_by F kept φ form (class_satisfies c F (all_of F) φ form a.1) touched;
  protected = keeps_value;
  extends = checked_extends;
}
