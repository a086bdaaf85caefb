use Rattle.std.proofs.Common.{◌≡◌, ◌∙◌, ◌++◌, length, sym, ap, arith}
use Rattle.lk_model.specs.declared.document.Round.{Round}
use Rattle.check_rounds.specs.Steps.{places_in_round}
use Rattle.check_rounds.proofs.StepPlaces.{round_more}
use Rattle.check_rounds.proofs.steps.step_places.Goals as goal

pub loop-k-preserved : goal.loop-k-preserved
loop-k-preserved c =
    let rounds = c.args.rounds.now in
    let k = c.loop-k.k in
    let r = c.index-rounds-k.result in
    let count : c.len.result ≡ length r.steps = c.len.ensures ∙ ap (λ (q : Round). length q.steps) (sym c.index-rounds-k.is) in
    c.in_ok-add_places.ensures
    ∙ (λ m. c.loop-k.invariant m ++ places_in_round k 0 (count m))
    ∙ sym (round_more rounds k r (omega arith) c.index-rounds-k.is)
