-- The first failing check of the class general, and what the form of its body gives.
use Rattle.std.proofs.Common.{◌≡◌, ◌∙◌, ℕ, true, List, [], ◌∷◌, subst, Some, None}
use Rattle.std.specs.List.{list_all}
use Rattle.lk_model.specs.Formulas.Formula.{Cnf}
use Rattle.lk_model.specs.Formulas.Crossed.{no_variable}
use Rattle.lk_model.specs.Documents.Documents.{steps_of}
use Rattle.lk_model.specs.Documents.Form.{is_done_in_form, is_body, are_steps, is_whole}
use Rattle.lk_model.specs.Checks.Check.{first_of}
use Rattle.lk_model.specs.Checks.Checks.{class_checks}
use Rattle.lk_model.specs.Checks.RoundChecks.{bad_step, not_blocked}
use Rattle.lk_model.specs.declared.document.Round.{Round}
use Rattle.lk_model.specs.declared.document.Body.{Body}
use Rattle.lk_model.specs.declared.document.Body.TheVariants.{General}
use Rattle.lk_model.specs.declared.document.DoneDocument.{DoneDocument}
use Rattle.lk_model.specs.declared.verdict.Kind.TheVariants.{BadStep, NotBlocked}
use Rattle.lk_model.proofs.Booleans.{and_true}
use Rattle.kernel_laws.proofs.Passed.{in_form}
use Rattle.lean_checker.proofs.FirstFailures.{failure, fails_first, passes_first}

module _ (F : Cnf) (d : DoneDocument) (rounds : List Round) where
  pub step_fails : (p : ℕ) → Some p ≡ (bad_step no_variable F d.kept rounds).place → Some (failure BadStep p) ≡ first_of (class_checks no_variable F d (General rounds))
  unfolding bad_step
  step_fails p e = fails_first (bad_step no_variable F d.kept rounds) (not_blocked no_variable F d rounds ∷ []) p e

  pub blocked_fails : (p : ℕ) → None ≡ (bad_step no_variable F d.kept rounds).place → Some p ≡ (not_blocked no_variable F d rounds).place
      → Some (failure NotBlocked p) ≡ first_of (class_checks no_variable F d (General rounds))
  unfolding not_blocked
  blocked_fails p a e = fails_first (not_blocked no_variable F d rounds) [] p e ∙ passes_first (bad_step no_variable F d.kept rounds) (not_blocked no_variable F d rounds ∷ []) a

-- the steps of a general body are numbered one after another
pub general_steps : (n m : ℕ) (d : DoneDocument) (rounds : List Round) → is_done_in_form d ≡ true → d.body ≡ General rounds → d.vars ≡ n → d.clauses ≡ m → are_steps n m (steps_of rounds) ≡ true
unfolding is_body
general_steps n m d rounds form is vars clauses =
    let body : is_body d.vars d.clauses (General rounds) ≡ true = subst (λ (b : Body). is_body d.vars d.clauses b ≡ true) is (in_form d form).body in
    let steps : are_steps d.vars d.clauses (steps_of rounds) ≡ true = (and_true (are_steps d.vars d.clauses (steps_of rounds)) (list_all is_whole rounds) body).0 in
    subst (λ (k : ℕ). are_steps n k (steps_of rounds) ≡ true) clauses (subst (λ (k : ℕ). are_steps k d.clauses (steps_of rounds) ≡ true) vars steps)
