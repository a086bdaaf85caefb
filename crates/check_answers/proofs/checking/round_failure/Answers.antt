use Rattle.std.proofs.Common.{◌∙◌, sym, ap}
use Rattle.std.specs.Prelude.{option_map}
use Rattle.lk_model.specs.declared.verdict.Kind.TheVariants.{BadStep}
use Rattle.check_answers.proofs.CheckedAnswers.{why_of, by_round}
use Rattle.check_answers.proofs.checking.round_failure.Goals as goal

pub returns-in-Some : goal.returns-in-Some
returns-in-Some c =
    ap (option_map (why_of BadStep)) (sym c.in-Some.is)
    ∙ by_round c.args.f.now c.args.round.now c.in_ok-number.field-0 c.as_slice.result.now (c.as_slice.ensures ∙ c.in_ok-all.ensures.value) c.in_ok-number.ensures

pub returns : goal.returns
returns c =
    ap (option_map (why_of BadStep)) (sym c.in-None.is)
    ∙ by_round c.args.f.now c.args.round.now c.in_ok-number.field-0 c.as_slice.result.now (c.as_slice.ensures ∙ c.in_ok-all.ensures.value) c.in_ok-number.ensures
