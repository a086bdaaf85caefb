use Rattle.std.proofs.Common.{◌≡◌, ◌||◌, true, sym, subst, take, arith, List, ℤ}
use Rattle.lk_model.specs.Lists.{is_empty}
use Rattle.lk_model.specs.Held.VariableSets.{premises_of}
use Rattle.lk_model.specs.Chains.Chain.{is_learned}
use Rattle.lk_model.specs.declared.document.Step.{Step}
use Rattle.crossed_copy.proofs.Learning.{learned_more}
use Rattle.crossed_copy.proofs.learned.are_learned.Goals as goal

pub loop-i-preserved : goal.loop-i-preserved
loop-i-preserved c =
    let over = c.args.over.now in
    let steps = c.args.steps.now in
    let i = c.loop-i.i in
    let learned = λ (ls : List ℤ). is_empty ls || is_learned (premises_of over (take i steps)) ls in
    learned_more over steps i c.index-steps-i.result (omega (arith, c.loop-i-test.true)) c.index-steps-i.is c.loop-i.invariant
    (subst (λ (s : Step). learned s.clause ≡ true) (sym c.index-steps-i.is)
    (subst (λ (ls : List ℤ). learned ls ≡ true) c.as_slice.ensures (c.is_learned.ensures c.if-not-is_learned.false)))
