use Rattle.std.proofs.Common.{◌≡◌, ℤ, List, sym, subst, true, length}
use Rattle.lk_model.specs.Documents.Form.{are_steps, is_whole}
use Rattle.lk_model.proofs.Booleans.{and_true}
use Rattle.lk_model.specs.Documents.Answers.{is_answer, is_total}
use Rattle.lk_model.specs.declared.answer.Answer.{Answer}
use Rattle.check_answers.proofs.checking.check_answer.Goals as goal

pub model_failure-requires : goal.model_failure-requires
model_failure-requires c =
    let F = c.args.f.now in
    subst (λ (ls : List ℤ). is_total F.vars ls ≡ true) (sym c.as_slice.ensures)
    (subst (λ (a : Answer). is_answer F.vars (length F.clauses) a ≡ true) c.in-Model.is c.requires)

pub round_failure-requires : goal.round_failure-requires
round_failure-requires c =
    let F = c.args.f.now in
    let r = c.in-Refuted.round in
    (and_true (are_steps F.vars (length F.clauses) r.steps) (is_whole r) (subst (λ (a : Answer). is_answer F.vars (length F.clauses) a ≡ true) c.in-Refuted.is c.requires)).0
