use Rattle.std.proofs.Common.{◌≡◌, ◌∙◌, ◌<◌, List, not, filter, length, ap, sym, arith}
use Rattle.lk_model.specs.Lists.{is_empty}
use Rattle.lk_model.specs.declared.document.Step.{Step}
use Rattle.lk_model.specs.declared.document.Round.{Round}
use Rattle.lean_checker.proofs.OpenFailures.{too_many}
use Rattle.lean_checker.proofs.unfinished.has_learned.Goals as goal

pub returns-then-count-remaining : goal.returns-then-count-remaining
returns-then-count-remaining c =
    let r = c.index-rounds-k.result in
    let same : c.as_slice.result.now ≡ r.steps = c.as_slice.ensures ∙ ap (λ (q : Round). q.steps) (sym c.index-rounds-k.is) in
    let more : c.loop-k.remaining < length (filter (λ (s : Step). not (is_empty s.clause)) r.steps) =
    omega (arith, c.if-count-remaining.true, c.learned_count-count.ensures, ap (λ (ss : List Step). length (filter (λ (s : Step). not (is_empty s.clause)) ss)) same) in
    sym (too_many c.args.rounds.now c.loop-k.k c.args.learned c.loop-k.remaining r (omega arith) c.index-rounds-k.is c.loop-k.invariant more)
