use Rattle.std.proofs.Common.{◌≡◌, ◌+◌, ◌∙◌, [], ◌∷◌, ◌++◌, sym, ap, subst, List, take, IsTrue}
use Rattle.std.proofs.lemmas.List.{take_more, take_all}
use Rattle.lk_model.specs.declared.document.Step.{Step}
use Rattle.refutation_log.proofs.ChainNames.{state_clauses, state_push, to_chains}
use Rattle.test_search.proofs.clauses.are_chains.Goals as goal

pub loop-i-preserved : goal.loop-i-preserved
loop-i-preserved c =
    let over = c.args.over.now in
    let steps = c.args.steps.now in
    let i = c.loop-i.i in
    let s = c.index-steps-i.result in
    let more : take (i + 1) steps ≡ take i steps ++ s ∷ [] = take_more steps i s c.loop-i-test.true ∙ ap (λ (u : Step). take i steps ++ u ∷ []) (sym c.index-steps-i.is) in
    rw (more) (state_push over [] (take i steps) s c.loop-i.invariant (sym c.in_ok-states.ensures ∙ c.if-not-branch.false))

pub returns : goal.returns
returns c told =
    let steps = c.args.steps.now in
    to_chains c.args.over.now steps
    (subst (λ (ss : List Step). IsTrue (state_clauses c.args.over.now [] ss)) (take_all c.loop-i.i steps c.loop-i-test.false) c.loop-i.invariant)
