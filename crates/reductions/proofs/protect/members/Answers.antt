use Rattle.std.proofs.Common.{◌∙◌, sym}
use Rattle.lk_model.specs.Held.VariableSets.{is_in}
use Rattle.lk_model.proofs.VariableLists.{filter_took, filter_left}
use Rattle.reductions.proofs.protect.members.Goals.{then-has+in_ok-push, else-has}
use Rattle.reductions.proofs.protect.members.Goals as goal

pub loop-v-preserved : goal.loop-v-preserved
loop-v-preserved c =
    let has = is_in c.args.set.now in
    let v = c.loop-v.v in
    elim c.if-has.branch [
      | then-has+in_ok-push w ↦ filter_took has v c.loop-v.vars c.if-has.vars c.loop-v.invariant (sym c.has.ensures ∙ w.if-has.true) (w.vars-is ∙ w.in_ok-push.ensures.ok)
      | else-has w ↦ filter_left has v c.loop-v.vars c.if-has.vars c.loop-v.invariant (sym c.has.ensures ∙ w.if-has.false) w.vars-is
    ]
