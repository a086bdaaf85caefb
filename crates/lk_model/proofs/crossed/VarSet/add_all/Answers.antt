use Rattle.std.proofs.Common.{◌∙◌, ap, length, arith}
use Rattle.std.proofs.lemmas.List.{length-set}
use Rattle.lk_model.specs.Held.VariableSets.{is_in}
use Rattle.lk_model.proofs.Rising.{rising_bounds}
use Rattle.lk_model.proofs.VariableLists.{in_more}
use Rattle.lk_model.proofs.crossed.VarSet.add_all.Goals as goal

pub add-requires-clause-first : goal.add-requires-clause-first
add-requires-clause-first c = (rising_bounds 0 _ _ c.loop-v.v-index c.requires c.loop-v-test.true).0

pub add-requires-clause-last : goal.add-requires-clause-last
add-requires-clause-last c =
    let most = (rising_bounds 0 _ _ c.loop-v.v-index c.requires c.loop-v-test.true).1 in
    omega (arith, most, c.loop-v.invariant.size)

pub loop-v-preserved : goal.loop-v-preserved
loop-v-preserved c =
    let place = rising_bounds 0 _ _ c.loop-v.v-index c.requires c.loop-v-test.true in
    record {
      size = ap (λ s. length s) c.add.ensures ∙ length-set c.loop-v.self _ _ ∙ c.loop-v.invariant.size;
      vars = λ v. ap (λ s. is_in s v) c.add.ensures ∙ in_more _ c.loop-v.self _ c.loop-v.v-index v c.loop-v-test.true place.0 (omega (arith, place.1, c.loop-v.invariant.size)) (c.loop-v.invariant.vars v);
    }
