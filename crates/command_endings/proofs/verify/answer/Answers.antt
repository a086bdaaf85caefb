use Rattle.std.proofs.Common.{◌≡◌, []}
use Rattle.lk_model.specs.Texts.PlainText.{line}
use Rattle.lean_checker.specs.Verdicts.{verdict_words}
use Rattle.command_words.specs.OptionRows.{values_of}
use Rattle.command_words.specs.declared.command.Command.TheVariants.{Verify}
use Rattle.command_endings.specs.Answering.{IsAnswer}
use Rattle.status_lines.specs.Verdicts.{verdict_status}
use Rattle.command_endings.proofs.EndingFacts.{by_three}
use Rattle.command_endings.proofs.Verdicts.{verdict_result}
use Rattle.command_endings.proofs.VerifiedAnswers.{verified_answers}
use Rattle.command_endings.proofs.verify.answer.Goals as goal

pub returns : goal.returns
returns c =
    let F = c.args.read.now.formula in
    let a = c.args.read.now.answer in
    let v = c.verdict_by.result in
    by_three (λ e. e.status ≡ verdict_status v) (λ e. e.written.items ≡ line (verdict_words v)) (λ e. e.said.items ≡ []) (IsAnswer Verify (values_of c.args.options.now) (F, (a, tt))) c.ending_of_verdict.result c.ending_of_verdict.ensures.status c.ending_of_verdict.ensures.written c.ending_of_verdict.ensures.said
    (λ e status written said. record {
      result = verdict_result v e.status status;
      answers = verified_answers F a c.in_ok-why.why v e.status e.written.items e.said.items c.vars-vars.ensures.formula c.requires.form c.in_ok-why.ensures c.verdict_by.ensures status written said;
    })
