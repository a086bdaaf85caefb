use Rattle.std.proofs.Common.{◌∙◌, List, ℤ, subst, arith, take}
use Rattle.lk_model.specs.declared.document.Step.{Step}
use Rattle.check_rounds.specs.Index.{IsListed}
use Rattle.check_rounds.proofs.IndexLemmas.{all_next, all_end, steps_kept}
use Rattle.check_rounds.proofs.index.Index.add_steps.Goals as goal

pub loop-i-preserved : goal.loop-i-preserved
loop-i-preserved c =
    let blocks = c.args.blocks.now in
    let steps = c.args.steps.now in
    let i = c.loop-i.i in
    let inv = c.loop-i.invariant in
    let added = c.in_ok-add.ensures in
    let s = c.index-steps-i.result in
    let kept = steps_kept blocks c.loop-i.self c.add.new.self (take i steps) added.kept inv.found in
    record {
      size = added.size ∙ inv.size;
      found = all_next (λ (u : Step). IsListed blocks c.add.new.self u.clause u.number) steps i s (omega arith) c.index-steps-i.is kept
          (subst (λ (ls : List ℤ). IsListed blocks c.add.new.self ls s.number) c.as_slice.ensures added.found);
      kept = λ clause number h. added.kept clause number (inv.kept clause number h);
    }

pub returns-clause-found : goal.returns-clause-found
returns-clause-found c = all_end (λ (u : Step). IsListed c.args.blocks.now c.loop-i.self u.clause u.number) c.args.steps.now c.loop-i.i (omega arith) c.loop-i.invariant.found
