use Rattle.std.proofs.Common.{◌≡◌, [], ap, Ok}
use Rattle.lk_model.specs.Texts.PlainText.{line}
use Rattle.lean_checker.specs.Verdicts.{verdict_words}
use Rattle.command_words.specs.OptionRows.{values_of}
use Rattle.command_words.specs.declared.command.Command.TheVariants.{Check}
use Rattle.status_lines.specs.Verdicts.{verdict_status}
use Rattle.command_endings.specs.Answering.{IsAnswer}
use Rattle.command_endings.proofs.EndingFacts.{by_three}
use Rattle.command_endings.proofs.Verdicts.{verdict_result, verdict_answers}
use Rattle.command_endings.proofs.check.answer.Goals as goal

pub returns : goal.returns
returns g c =
    let F = c.args.read.now.formula in
    let d = c.args.read.now.document in
    let verdict = c.in_ok-verdict.verdict in
    by_three (λ e. e.status ≡ verdict_status verdict) (λ e. e.written.items ≡ line (verdict_words verdict)) (λ e. e.said.items ≡ []) (IsAnswer Check (values_of c.args.options.now) (F, (d, tt))) c.ending_of_verdict.result c.ending_of_verdict.ensures.status c.ending_of_verdict.ensures.written c.ending_of_verdict.ensures.said
    (λ e status written said. record {
      result = verdict_result verdict e.status status;
      answers = verdict_answers F d verdict e.status e.written.items e.said.items c.requires.form c.in_ok-verdict.ensures.verdict (λ e. c.in_ok-verdict.ensures.reduction (ap Ok e)) status written said;
    })
