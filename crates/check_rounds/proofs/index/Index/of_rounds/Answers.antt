use Rattle.std.proofs.Common.{◌≡◌, ◌∙◌, List, ℕ, true, sym, subst, ap, arith, take, length}
use Rattle.std.specs.List.{list_all}
use Rattle.lk_model.specs.Formulas.Literal.{is_literal}
use Rattle.lk_model.specs.declared.document.Step.{Step}
use Rattle.lk_model.specs.declared.document.Round.{Round}
use Rattle.lk_model.proofs.Rounds.{round_literals}
use Rattle.check_rounds.specs.Index.{AreStepsListed}
use Rattle.check_rounds.proofs.Reaching.{round_steps}
use Rattle.check_rounds.proofs.IndexLemmas.{all_next, all_end, rounds_kept}
use Rattle.check_rounds.proofs.index.Index.of_rounds.Goals as goal

pub add_steps-requires-clause-literals : goal.add_steps-requires-clause-literals
add_steps-requires-clause-literals c =
    let F = c.args.f.now in
    let r = c.index-rounds-k.result in
    let form = round_steps F.vars (length F.clauses) c.args.rounds.now c.loop-k.k r c.requires.steps (omega arith) c.index-rounds-k.is in
    let same : r.steps ≡ c.as_slice.result.now = ap (λ (q : Round). q.steps) c.index-rounds-k.is ∙ sym c.as_slice.ensures in
    subst (λ (n : ℕ). list_all (λ (s : Step). list_all (is_literal n) s.clause) c.as_slice.result.now ≡ true) (sym c.vars-in-loop-k.ensures.value)
    (subst (λ (steps : List Step). list_all (λ (s : Step). list_all (is_literal F.vars) s.clause) steps ≡ true) same (round_literals F.vars r.steps form.form))

pub loop-k-preserved : goal.loop-k-preserved
loop-k-preserved c =
    let blocks = c.args.blocks.now in
    let rounds = c.args.rounds.now in
    let k = c.loop-k.k in
    let r = c.index-rounds-k.result in
    let inv = c.loop-k.invariant in
    let added = c.in_ok-add_steps.ensures in
    let same : c.as_slice.result.now ≡ r.steps = c.as_slice.ensures ∙ ap (λ (q : Round). q.steps) (sym c.index-rounds-k.is) in
    let kept = rounds_kept blocks c.loop-k.index c.add_steps.new.self (take k rounds) added.kept inv.found in
    record {
      size = added.size ∙ inv.size;
      found = all_next (λ (q : Round). AreStepsListed blocks c.add_steps.new.self q.steps) rounds k r (omega arith) c.index-rounds-k.is kept
          (subst (λ (steps : List Step). AreStepsListed blocks c.add_steps.new.self steps) same added.found);
    }

pub returns-clause-found : goal.returns-clause-found
returns-clause-found c = all_end (λ (q : Round). AreStepsListed c.args.blocks.now c.loop-k.index q.steps) c.args.rounds.now c.loop-k.k (omega arith) c.loop-k.invariant.found
