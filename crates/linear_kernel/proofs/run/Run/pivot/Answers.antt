use Rattle.std.proofs.Common.{◌∙◌, ap, sym}
use Rattle.lk_model.specs.Linear.Rows.{TableauRows}
use Rattle.lk_model.specs.Linear.Pivot.{pivoted}
use Rattle.linear_kernel.proofs.run.Run.pivot.Goals as goal

pub invariant_of-result : goal.invariant_of-result
unfolding pivoted
invariant_of-result c = c.self.invariant ∙ sym (ap (λ (t : TableauRows). t.positions) c.in_ok-rows.ensures.1)
