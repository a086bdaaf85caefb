use Rattle.std.proofs.Common.{◌∙◌, IsTrue, ap, length, subst, sym}
use Rattle.lk_model.specs.Lists.{rises_within}
use Rattle.lk_model.specs.Linear.Rows.{TableauRows, start_of}
use Rattle.linear_kernel.proofs.run.Run.begin.Goals as goal
use Rattle.lk_model.proofs.Rising.{all_rise}

pub of-requires : goal.of-requires
of-requires c = subst (λ ps. IsTrue (rises_within 0 (length c.args.f.now.clauses) ps)) (sym (c.as_slice.ensures ∙ c.requires)) (all_rise c.args.f.now)

pub invariant_of-result : goal.invariant_of-result
unfolding start_of
invariant_of-result c = sym (ap (λ (t : TableauRows). t.positions) c.in_ok-rows.ensures ∙ c.as_slice.ensures)
