use Rattle.std.proofs.Common.{ℕ, length, subst, rules}
use borrow.Author.Tests.{tests}
use Rattle.lk_model.specs.Formulas.Formula.{clause_at}
use Rattle.check_linear.specs.Linear.{AreFirsts, is_bad_stage}
use Rattle.check_tables.proofs.Spans.{place_told}
use Rattle.check_linear.proofs.StageBalances.{stage_found}
use Rattle.check_linear.proofs.linear.bad_stage.Goals as goal

-- what is found is the first position that is bad by the first weights
pub returns : goal.returns
returns g c =
    let F = c.args.f.now in
    let stages = c.args.stages.now in
    let places = c.in_ok-firsts.firsts.places.items in
    let weights = c.in_ok-firsts.firsts.weights.items in
    let firsts = subst (λ (n : ℕ). AreFirsts n 0 stages places weights) c.vars.ensures.value c.in_ok-firsts.ensures.firsts in
    place_told (λ p. is_bad_stage (length stages) places weights (clause_at F p)) c.len.result (length F.clauses) c.least_found.result _ c.len.ensures.value
    (stage_found F c.args.d.now stages places weights c.vars.ensures.formula firsts)
    (c.least_found.ensures (λ p. is_bad_stage (length stages) places weights (clause_at F p)) (λ span r low high told. search (rules, tests)))
