use Rattle.std.proofs.Common.{◌∙◌, ℕ, List, length, ap}
use Rattle.std.proofs.lemmas.List.{length-replicate}
use Rattle.occurrence_lists.proofs.Parts.{begun_next, begun_within, begun_empty}
use Rattle.occurrence_lists.proofs.filling.Filling.new.Goals as goal

pub loop-size-preserved : goal.loop-size-preserved
loop-size-preserved c = rw (c.in_ok-push.ensures.items, c.in_ok-push-2.ensures.items) (begun_next _ _ _ _ _ c.loop-size.invariant c.loop-size-test.true)

pub invariant_of-result : goal.invariant_of-result
invariant_of-result c = begun_within c.args.sizes.now c.loop-size.size-index _ _ c.loop-size.stop _ c.loop-size.invariant c.loop-size-test.false
    (ap (λ (ps : List ℕ). length ps) (c.in_ok-positions.ensures.items_if_clones_equal (λ y e. e)) ∙ length-replicate c.loop-size.stop _) c.requires

pub returns : goal.returns
returns c = begun_empty c.args.sizes.now c.loop-size.size-index _ _ c.loop-size.stop _ c.loop-size.invariant c.loop-size-test.false
