use Rattle.std.proofs.Common.{Bool, List, subst}
use Rattle.std.proofs.lemmas.Result.{IfOk-weaker}
use Rattle.refutation_log.specs.Numbers.{AreNewNumbers}
use Rattle.refutation_log.proofs.Trimming.{trims}
use Rattle.refutation_log.proofs.numbers.renumbered.Goals as goal

pub returns : goal.returns
returns c =
    let m = c.args.marks.now in
    let steps = c.args.steps.items in
    let numbers = c.in_ok-numbers.numbers.items in
    let new : AreNewNumbers m.steps.items c.args.next numbers =
    subst (λ (ms : List Bool). AreNewNumbers ms c.args.next numbers) c.deref.ensures.value c.in_ok-numbers.ensures in
    IfOk-weaker c.kept_steps.result _ _
    (λ kept e. trims m.first c.args.next steps kept m.steps.items numbers c.requires.derivation c.requires.count
    c.requires.reached.steps new.each
    (rw (← c.deref-2.ensures.value, ← c.deref-3.ensures.value) e))
    c.kept_steps.ensures
