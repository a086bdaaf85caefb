use Rattle.std.proofs.Common.{◌∙◌, ap, length, false}
use Rattle.std.proofs.lemmas.List.{length-replicate}
use Rattle.lk_model.specs.Held.VariableSets.{is_in}
use Rattle.reductions.proofs.Protecting.{none_listed}
use Rattle.reductions.proofs.protect.set_of.Goals as goal

pub loop-v-init : goal.loop-v-init
loop-v-init c = record {
  size = ap (λ s. length s) c.in_ok-set.ensures ∙ length-replicate c.args.n false;
  vars = λ v. ap (λ s. is_in s v) c.in_ok-set.ensures ∙ none_listed c.args.n v;
}
