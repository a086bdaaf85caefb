use Rattle.std.proofs.Common.{◌∙◌, Bool, Option, sym, ap, length, is_some}
use Rattle.lk_model.specs.Held.PartialValues.{assignment_by}
use Rattle.lk_model.proofs.Rising.{rising_bounds}
use Rattle.lk_model.proofs.Founds.{find-here, find-none_more}
use Rattle.check_places.proofs.common.first_set.Goals as goal

pub value-requires-clause-first : goal.value-requires-clause-first
value-requires-clause-first c = (rising_bounds 0 (length c.args.values.now) c.args.vars.now c.loop-v.v-index c.requires c.loop-v-test.true).0

pub value-requires-clause-last : goal.value-requires-clause-last
value-requires-clause-last c = (rising_bounds 0 (length c.args.values.now) c.args.vars.now c.loop-v.v-index c.requires c.loop-v-test.true).1

pub returns-then-is_some : goal.returns-then-is_some
returns-then-is_some c =
    let set = ap (λ (o : Option Bool). is_some o) (sym c.value.ensures) ∙ sym c.is_some.ensures ∙ c.if-is_some.true in
    find-here (λ v. is_some (assignment_by c.args.values.now v)) c.args.vars.now c.loop-v.v-index 0 c.loop-v-test.true c.loop-v.invariant set

pub loop-v-preserved : goal.loop-v-preserved
loop-v-preserved c =
    let unset = ap (λ (o : Option Bool). is_some o) (sym c.value.ensures) ∙ sym c.is_some.ensures ∙ c.if-is_some.false in
    find-none_more (λ v. is_some (assignment_by c.args.values.now v)) c.args.vars.now c.loop-v.v-index 0 c.loop-v-test.true c.loop-v.invariant unset
