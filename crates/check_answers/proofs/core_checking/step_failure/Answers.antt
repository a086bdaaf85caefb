use Rattle.std.proofs.Common.{◌≡◌, ◌∙◌, ℕ, List, true, length, ap, sym, subst}
use Rattle.lk_model.specs.Lists.{rises_within}
use Rattle.lk_model.specs.Documents.Form.{are_steps}
use Rattle.check_answers.proofs.CoreFailures.{step_here}
use Rattle.lk_model.proofs.CoreForms.{core_form}
use Rattle.check_answers.proofs.core_checking.step_failure.Goals as goal

pub misstated_step-requires-clause-part : goal.misstated_step-requires-clause-part
misstated_step-requires-clause-part c =
    ap (λ (ps : List ℕ). rises_within 0 (length c.args.f.now.clauses) ps) c.as_slice.ensures
    ∙ subst (λ (m : ℕ). rises_within 0 m c.args.a.now.core ≡ true) c.requires.clauses (core_form c.args.a.now c.requires.form).core

pub misstated_step-requires-clause-steps : goal.misstated_step-requires-clause-steps
misstated_step-requires-clause-steps c =
    (λ i. are_steps (sym c.requires.vars i) (sym c.requires.clauses i) c.args.a.now.round.steps) ∙ (core_form c.args.a.now c.requires.form).steps

pub returns-in-Some : goal.returns-in-Some
returns-in-Some c =
    step_here c.args.f.now c.args.a.now c.as_slice.result.now c.in_ok-number.field-0 c.in-Some.number c.as_slice.ensures c.in-Some.is c.in_ok-number.ensures
