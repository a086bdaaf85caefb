use Rattle.std.proofs.Common.{◌∙◌, sym, subst}
use Rattle.lk_model.specs.Documents.Form.{is_in_form}
use Rattle.lk_model.specs.declared.document.Document.{Document}
use Rattle.std.proofs.Common.{◌≡◌, true}
use Rattle.lean_checker.specs.Accepted.{IsReducedBy}
use Rattle.document_laws.proofs.AcceptedLaws.{accepted_law}
use Rattle.lean_checker.proofs.checking.check.Goals as goal

pub returns-in-None-clause-reduction : goal.returns-in-None-clause-reduction
returns-in-None-clause-reduction g c = λ _.
    let F = c.args.f.now in
    let d = c.in-Done.done in
    let form = subst (λ (e : Document). is_in_form e ≡ true) c.in-Done.is c.requires.form in
    subst (λ (e : Document). IsReducedBy F e) (sym c.in-Done.is)
    (accepted_law.reduces F d c.in_ok-why-in-Done.ensures.formula (record { form = form; checks = sym (sym c.in-None.is ∙ c.in_ok-why-in-Done.ensures.first) }))
