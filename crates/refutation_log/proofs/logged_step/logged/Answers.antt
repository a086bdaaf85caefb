use Rattle.std.proofs.Common.{List, [], ◌∷◌, ◌++◌, ◌∙◌, length, get_or, sym, ap}
use Rattle.std.proofs.lemmas.List.{length_push, take_more}
use Rattle.std.proofs.lemmas.Iterator.Adapters.{YieldsList-from_vec}
use Rattle.std.proofs.lemmas.Iterator.Consumers.{YieldsList-turn}
use Rattle.lk_model.specs.declared.document.Step.{Step}
use Rattle.refutation_log.proofs.logged_step.logged.Goals as goal

pub loop-step-preserved : goal.loop-step-preserved
loop-step-preserved c =
    let all = c.args.steps.items in
    let n = length c.loop-step.yielded in
    let g = c.into_iter-step-iterator.ensures.into_iter_gives in
    let t = YieldsList-turn (YieldsList-from_vec all g.0 (g.1 ∙ c.args.steps.ok.0)) c.loop-step.yielded _ c.loop-step.yielded_by c.next.result c.next.new.self c.in-Some.step c.in-Some.is c.next.ensures.steps in
    rw (length_push c.loop-step.yielded c.in-Some.step)
    (c.in_ok-push.ensures.items ∙ ap (λ (s : Step). c.loop-step.logged.items ++ s ∷ []) (c.in_ok-of.ensures ∙ t.1)
    ∙ ap (λ (ss : List Step). ss ++ get_or all n c.in-Some.step ∷ []) c.loop-step.invariant ∙ sym (take_more all n c.in-Some.step t.0))
