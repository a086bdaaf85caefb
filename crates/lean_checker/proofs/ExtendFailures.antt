-- The first failing check before a model is extended.
use Rattle.std.proofs.Common.{◌≡◌, ◌∙◌, ℕ, true, false, not, [], ◌∷◌, ◌++◌, refl, sym, ap, subst, Option, Some, None, unwrap_or}
use Rattle.std.specs.Prelude.{find}
use Rattle.std.specs.Option.{option_or}
use Rattle.lk_model.specs.Formulas.Formula.{Cnf, clause_at}
use Rattle.lk_model.specs.Formulas.Crossed.{protected_by}
use Rattle.lk_model.specs.Formulas.Assignment.{Assignment, assignment_of, satisfies, extended_value}
use Rattle.lk_model.specs.Documents.Form.{is_done_in_form, is_protect_line}
use Rattle.lk_model.specs.Checks.Check.{first_of}
use Rattle.lk_model.specs.Checks.CommonChecks.{model_fails}
use Rattle.lk_model.specs.Checks.Checks.{first_five, first_failure_to_extend, first_failure_to_extend_under}
use Rattle.lk_model.specs.declared.document.DoneDocument.{DoneDocument}
use Rattle.lk_model.specs.declared.verdict.Kind.{Kind}
use Rattle.lk_model.specs.declared.verdict.Kind.TheVariants.{ModelFails}
use Rattle.lk_model.specs.declared.verdict.Why.{Why}
use Rattle.kernel_laws.proofs.Passed.{in_form, none_fails}
use Rattle.document_laws.proofs.Commons.{set_unset}
use Rattle.document_laws.proofs.ProtectedCheckLaws.{line_within}
use Rattle.document_laws.proofs.ExtensionLaws.{extension_law}
use Rattle.lean_checker.proofs.FirstFailures.{failure, fails_first, passes_first, first_of-append}

model_kind : (F : Cnf) (d : DoneDocument) (ψ : Assignment) → (model_fails F d ψ).kind ≡ ModelFails
unfolding model_fails
model_kind F d ψ = refl

-- the place of model-fails is the first kept position whose clause is not satisfied
pub model_place : (F : Cnf) (d : DoneDocument) (ψ : Assignment) → (model_fails F d ψ).place ≡ find (λ p. not (satisfies ψ (clause_at F p))) d.kept
unfolding model_fails
model_place F d ψ = refl

-- the five come first, and then the model
failure_is : (F : Cnf) (d : DoneDocument) (ψ : Assignment) → option_or (first_of (first_five (protected_by d.protect) F d)) (first_of (model_fails F d ψ ∷ [])) ≡ first_failure_to_extend F d ψ
unfolding first_failure_to_extend_under
failure_is F d ψ = sym (first_of-append (first_five (protected_by d.protect) F d) (model_fails F d ψ ∷ []))

-- one of the five is the first that fails
pub common_refuses : (F : Cnf) (d : DoneDocument) (ψ : Assignment) (why : Why) → Some why ≡ first_of (first_five (protected_by d.protect) F d) → Some why ≡ first_failure_to_extend F d ψ
common_refuses F d ψ why e = ap (λ (o : Option Why). option_or o (first_of (model_fails F d ψ ∷ []))) e ∙ failure_is F d ψ

behind_five : (F : Cnf) (d : DoneDocument) (ψ : Assignment) (o : Option Why) → None ≡ first_of (first_five (protected_by d.protect) F d) → o ≡ first_of (model_fails F d ψ ∷ []) → o ≡ first_failure_to_extend F d ψ
behind_five F d ψ o none e = e ∙ ap (λ (w : Option Why). option_or w (first_of (model_fails F d ψ ∷ []))) none ∙ failure_is F d ψ

-- or the model
pub model_refuses : (F : Cnf) (d : DoneDocument) (ψ : Assignment) (p : ℕ) → None ≡ first_of (first_five (protected_by d.protect) F d) → Some p ≡ (model_fails F d ψ).place
    → Some (failure ModelFails p) ≡ first_failure_to_extend F d ψ
model_refuses F d ψ p none e = behind_five F d ψ (Some (failure ModelFails p)) none (ap (λ (k : Kind). Some (failure k p)) (sym (model_kind F d ψ)) ∙ fails_first (model_fails F d ψ) [] p e)

-- or none
pub none_refuses : (F : Cnf) (d : DoneDocument) (ψ : Assignment) → None ≡ first_of (first_five (protected_by d.protect) F d) → None ≡ (model_fails F d ψ).place → None ≡ first_failure_to_extend F d ψ
none_refuses F d ψ none e = behind_five F d ψ None none (passes_first (model_fails F d ψ) [] e)

-- WHERE NONE FAILS

-- a protected variable keeps its value in the model
pub protected_keep : (F : Cnf) (d : DoneDocument) (ψ : Assignment) → d.vars ≡ F.vars → is_done_in_form d ≡ true → first_failure_to_extend F d ψ ≡ None
    → (v : ℕ) → protected_by d.protect v ≡ true → extended_value (assignment_of d.set) ψ v ≡ unwrap_or (ψ v) false
unfolding first_failure_to_extend_under
protected_keep F d ψ vars form e v within =
    let h = none_fails (first_five (protected_by d.protect) F d ++ model_fails F d ψ ∷ []) e in
    let line = subst (λ (n : ℕ). is_protect_line n d.protect ≡ true) vars (in_form d form).protect in
    extension_law.protected (protected_by d.protect) (assignment_of d.set) ψ (set_unset (protected_by d.protect) F d (line_within F d.protect line) h.1.1.0) v within
