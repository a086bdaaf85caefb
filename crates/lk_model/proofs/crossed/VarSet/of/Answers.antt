use Rattle.std.proofs.Common.{◌∙◌, ap, length, IsTrue, sym, subst}
use Rattle.std.proofs.lemmas.List.{length-replicate}
use Rattle.lk_model.specs.Lists.{rises_within}
use Rattle.lk_model.proofs.crossed.VarSet.of.Goals as goal

pub add_all-requires : goal.add_all-requires
add_all-requires c = subst (λ n. IsTrue (rises_within 0 n c.args.vars.now)) (sym (ap (λ s. length s) c.in_ok-set.ensures ∙ length-replicate c.args.n _)) c.requires
