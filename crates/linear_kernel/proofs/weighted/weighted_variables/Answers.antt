use Rattle.std.proofs.Common.{◌∙◌, ap, length}
use Rattle.std.proofs.lemmas.List.{length-set}
use Rattle.lk_model.specs.Held.VariableSets.{is_in}
use Rattle.linear_kernel.proofs.Weightings.{weight_more}
use Rattle.linear_kernel.proofs.weighted.weighted_variables.Goals as goal

pub loop-w-preserved : goal.loop-w-preserved
loop-w-preserved c = record {
  size = ap (λ s. length s) c.add.ensures ∙ length-set c.loop-w.set _ _ ∙ c.loop-w.invariant.size;
  value = λ v. ap (λ s. is_in s v) c.add.ensures
      ∙ weight_more c.args.n c.args.weights.now _ c.loop-w.set c.loop-w.w-index v _ c.loop-w-test.true c.requires c.loop-w.invariant.size (c.loop-w.invariant.value v);
}
