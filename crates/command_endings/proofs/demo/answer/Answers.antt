use Rattle.std.proofs.Common.{◌≡◌, ℕ, rules, subst}
use Rattle.command_endings.specs.Commands.Demo.{conflicts, finished}
use Rattle.part_kernels.specs.ByParts.{IsFirstUnfinished}
use Rattle.reductions.specs.Founds.{IsStopOf}
use Rattle.reductions.specs.declared.find.GeneralStop.{GeneralStop}
use Rattle.reductions.specs.declared.find.GeneralStop.TheVariants.{Unfinished}
use Rattle.command_endings.proofs.DemoEndings.{rounds_answer}
use Rattle.command_endings.proofs.demo.answer.Goals as goal

pub returns-in-Err-Unfinished-clause-answers : goal.returns-in-Err-Unfinished-clause-answers
returns-in-Err-Unfinished-clause-answers g c =
    let F = c.in_ok-formula.formula in
    let document = c.open_document_of-document in
    let rounds = c.in-Err-Unfinished.rounds in
    let is : c.in-Err-Unfinished.field-0 ≡ Unfinished rounds = cc c.in-Err-Unfinished.is in
    let budget : c.unwrap-conflicts.result ≡ conflicts = search rules in
    let h : IsFirstUnfinished F conflicts rounds = subst (λ (n : ℕ). IsFirstUnfinished F n rounds) budget (subst (λ (s : GeneralStop). IsStopOf F c.unwrap-conflicts.result s) is c.in-Err-Unfinished.ensures.stop) in
    rounds_answer c.args.number F rounds document.result c.unfinished.result c.in_ok-formula.ensures.value document.ensures.formula document.ensures.limits
    h document.ensures.document c.unfinished.ensures.status c.unfinished.ensures.written c.unfinished.ensures.said

pub returns-in_ok-lines_of-in-Ok-clause-answers : goal.returns-in_ok-lines_of-in-Ok-clause-answers
returns-in_ok-lines_of-in-Ok-clause-answers g c = finished c.in_ok-lines_of-in-Ok.ensures c.new-in-Ok.ensures.items
