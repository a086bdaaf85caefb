use Rattle.std.proofs.Common.{◌∙◌, ◌+◌, ◌∷◌, drop, sym, ap, Ok}
use Rattle.std.proofs.lemmas.List.{drop_all}
use Rattle.lk_model.proofs.Lists.{drop_read}
use Rattle.check_places.specs.FirstAnswers.{first_answer}
use Rattle.check_places.proofs.answers.first_answer.Goals as goal

-- an answer that tells nothing leaves it to the later ones
pub loop-answer-preserved : goal.loop-answer-preserved
loop-answer-preserved g c =
    let answers = c.args.answers.now in
    let i = c.loop-answer.answer-index in
    c.loop-answer.invariant
    ∙ ap first_answer (drop_read answers i c.answer-item.result c.loop-answer-test.true c.answer-item.is)
    ∙ ap (λ r. first_answer (r ∷ drop (i + 1) answers)) (c.in_ok-place.was ∙ ap Ok c.in_default.is)

pub returns : goal.returns
returns g c = sym (c.loop-answer.invariant ∙ ap first_answer (drop_all c.loop-answer.answer-index c.args.answers.now c.loop-answer-test.false))
