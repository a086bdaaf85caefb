use Rattle.std.proofs.Common.{◌∙◌, sym, arith}
use Rattle.lk_model.specs.Held.PartialValues.{assignment_by}
use Rattle.lk_model.specs.Formulas.Assignment.{composed}
use Rattle.partial_assign.proofs.Extensions.{put_more, put_unset, none_more}
use Rattle.partial_assign.proofs.extension.compose.Goals.{in-Some, in_default}
use Rattle.partial_assign.proofs.extension.compose.Goals as goal

pub loop-v-preserved : goal.loop-v-preserved
loop-v-preserved c =
    let χ = composed (assignment_by c.args.first.now) (assignment_by c.args.second.now) in
    let k = c.loop-v.v in
    elim c.match-composed_value.branch [
      | in-Some w ↦ rw (w.whole-is) (record {
        vars = w.put.ensures.vars ∙ c.loop-v.invariant.vars;
        taken = put_more χ k w.in-Some.value w.from_var.result _ _ w.from_var.ensures (sym w.in-Some.is ∙ c.composed_value.ensures) c.loop-v.invariant.taken w.put.ensures.set w.put.ensures.others;
        unset = put_unset k w.in-Some.value w.from_var.result _ _ w.from_var.ensures c.loop-v.invariant.unset w.put.ensures.others;
      })
      | in_default w ↦ rw (w.whole-is) (record {
        vars = c.loop-v.invariant.vars;
        taken = none_more χ k _ (sym c.composed_value.ensures ∙ w.in_default.is) c.loop-v.invariant.taken c.loop-v.invariant.unset;
        unset = λ u lt. c.loop-v.invariant.unset u (omega (arith, lt));
      })
    ]
