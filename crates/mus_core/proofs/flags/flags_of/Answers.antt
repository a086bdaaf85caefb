use Rattle.std.proofs.Common.{◌<◌, ◌∙◌, get_or, length, arith}
use Rattle.std.proofs.lemmas.Grind.{common_steps}
use Rattle.std.proofs.lemmas.List.{length-set}
use Rattle.lk_model.proofs.Rising.{rising_bounds}
use Rattle.mus_core.proofs.Flagging.{place_more}
use Rattle.mus_core.proofs.flags.flags_of.Goals as goal

pub index_mut-requires : goal.index_mut-requires
index_mut-requires c =
    let high = (rising_bounds 0 c.args.m c.args.places.now c.loop-place.place-index c.requires.places c.loop-place-test.true).1 in
    let long = c.loop-place.invariant.0 in
    grind (arith, common_steps, high, long)

pub loop-place-preserved : goal.loop-place-preserved
loop-place-preserved c =
    let ps = c.args.places.now in
    let i = c.loop-place.place-index in
    let flags = c.loop-place.flags.items in
    let high = (rising_bounds 0 c.args.m ps i c.requires.places c.loop-place-test.true).1 in
    let long = c.loop-place.invariant.0 in
    let inside : get_or ps i 0 < length flags = omega (arith, high, long) in (
      length-set flags (get_or ps i 0) _ ∙ long,
      λ k. place_more flags ps i k c.loop-place-test.true inside (c.loop-place.invariant.1 k),
    )
