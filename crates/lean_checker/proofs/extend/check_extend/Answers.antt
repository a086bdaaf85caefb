use Rattle.std.proofs.Common.{◌≡◌, ◌∙◌, ℕ, true, sym, subst}
use Rattle.lk_model.specs.Lists.{rises_within}
use Rattle.lk_model.specs.Formulas.Crossed.{protected_by}
use Rattle.lk_model.specs.Held.PartialValues.{assignment_by}
use Rattle.kernel_laws.proofs.Passed.{in_form}
use Rattle.document_laws.proofs.ExtensionLaws.{extension_law}
use Rattle.lean_checker.proofs.ExtendFailures.{common_refuses, model_refuses, none_refuses, protected_keep}
use Rattle.lean_checker.proofs.extend.check_extend.Goals as goal

pub returns-in-Some-clause-first : goal.returns-in-Some-clause-first
returns-in-Some-clause-first c = common_refuses c.args.f.now c.args.d.now (assignment_by c.args.psi.now) c.in-Some.why (sym c.in-Some.is ∙ c.in_ok-why.ensures.first)

pub model_fails-requires-clause-positions : goal.model_fails-requires-clause-positions
model_fails-requires-clause-positions c =
    subst (λ (m : ℕ). rises_within 0 m c.args.d.now.kept ≡ true) (c.in_ok-why.ensures.sizes c.in_default.is).clauses (in_form c.args.d.now c.requires.form).kept

pub returns-in-Some-model_fails-clause-first : goal.returns-in-Some-model_fails-clause-first
returns-in-Some-model_fails-clause-first c =
    c.failure.ensures ∙ model_refuses c.args.f.now c.args.d.now (assignment_by c.args.psi.now) c.in-Some-model_fails.place (sym c.in_default.is ∙ c.in_ok-why.ensures.first) c.in-Some-model_fails.ensures

pub returns-in-None-clause-first : goal.returns-in-None-clause-first
returns-in-None-clause-first c =
    none_refuses c.args.f.now c.args.d.now (assignment_by c.args.psi.now) (sym c.in_default.is ∙ c.in_ok-why.ensures.first) c.in-None.ensures

pub returns-in-None-clause-extends : goal.returns-in-None-clause-extends
returns-in-None-clause-extends c = λ _.
    let F = c.args.f.now in
    let d = c.args.d.now in
    let ψ = assignment_by c.args.psi.now in
    let passes = none_refuses F d ψ (sym c.in_default.is ∙ c.in_ok-why.ensures.first) c.in-None.ensures in
    extension_law.extends (protected_by d.protect) F d ψ c.in_ok-why.ensures.formula (sym passes)

pub returns-in-None-clause-protected : goal.returns-in-None-clause-protected
returns-in-None-clause-protected c = λ _ v within.
    let F = c.args.f.now in
    let d = c.args.d.now in
    let ψ = assignment_by c.args.psi.now in
    let passes = none_refuses F d ψ (sym c.in_default.is ∙ c.in_ok-why.ensures.first) c.in-None.ensures in
    protected_keep F d ψ (c.in_ok-why.ensures.sizes c.in_default.is).vars c.requires.form (sym passes) v within
