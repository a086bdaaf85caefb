use Rattle.std.proofs.Common.{◌≡◌, ◌+◌, ◌++◌, ◌∙◌, List, sym, ap, subst, arith, length, map, take, drop, slice_index_or, slice_set}
use Rattle.std.proofs.lemmas.List.{get_or_default}
use Rattle.std.proofs.lemmas.List.Edits.{map_over_more}
use Rattle.lk_model.specs.declared.document.Step.{Step}
use Rattle.result_renaming.specs.Renamed.{new_step}
use Rattle.result_renaming.proofs.renaming.Renaming.round.Goals as goal

pub loop-step-preserved : goal.loop-step-preserved
loop-step-preserved c =
    let f : Step → Step = new_step c.args.self.now in
    let old = c.args.round.steps in
    let items = c.loop-step.step-items in
    let i = c.loop-step.step-index in
    let here : Step = slice_index_or items i c.step-item.result in
    let all : length c.deref_mut-step-items.result.now ≡ length old = ap (λ (ss : List Step). length ss) (c.deref_mut-step-items.ensures.value ∙ c.into_vec-steps.ensures) in
    let kept = c.loop-step.auto.step-items in
    let test = c.loop-step-test.true in
    let again : here ≡ slice_index_or items i here = get_or_default items i c.step-item.result here (omega (arith, test, kept)) in
    subst (λ (s : Step). slice_set items i s ≡ map f (take (i + 1) old) ++ drop (i + 1) old) (sym c.in_ok-step.ensures)
    (map_over_more f old items i here (omega (arith, test, all)) c.loop-step.invariant again)
