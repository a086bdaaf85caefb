use Rattle.std.proofs.Common.{◌≡◌, ◌∙◌, ℕ, ◌<◌, ◌^◌, [], refl, sym, subst}
use Rattle.std.specs.Prelude.{IsTrue}
use Rattle.lk_model.specs.Documents.Text.{text_of}
use Rattle.lk_model.specs.Formulas.Formula.{Cnf}
use Rattle.lk_model.specs.declared.document.Document.TheVariants.{Done as Finished, Unfinished}
use Rattle.part_kernels.specs.ByParts.{IsFirstUnfinished}
use Rattle.reductions.specs.Founds.{IsKernelFound, IsStopOf, document_of, open_document_of}
use Rattle.reductions.specs.declared.find.GeneralStop.{GeneralStop}
use Rattle.reductions.specs.declared.find.GeneralStop.TheVariants.{Unfinished as AnUnfinished}
use Rattle.reductions.specs.Protecting.{line_of}
use Rattle.command_words.specs.OptionRows.{values_of}
use Rattle.command_words.specs.declared.command.Command.TheVariants.{ReduceGeneral}
use Rattle.status_lines.specs.RunLines.{conflicts_line}
use Rattle.command_endings.specs.Answering.{IsAnswer}
use Rattle.status_lines.specs.Statuses.{is_result}
use Rattle.status_lines.specs.declared.status.Status.{Status}
use Rattle.status_lines.specs.declared.status.Status.TheVariants.{Done, Budget}
use Rattle.command_endings.proofs.GeneralEndings.{done_answers, open_answers}
use Rattle.command_endings.proofs.EndingFacts.{by_three}
use Rattle.command_endings.proofs.Problems.{positions_left}
use Rattle.command_endings.proofs.reduce_general.answer.Goals as goal

pub reduced-requires : goal.reduced-requires
reduced-requires g c =
    record { positions = positions_left c.args.formula (values_of c.args.options.now).protect c.in_ok-problem.problem c.left.result.now c.in-Ok.found.kept c.in_ok-problem.ensures c.left.ensures c.in-Ok.ensures.found.kernel.positions }

pub returns-in-Ok : goal.returns-in-Ok
returns-in-Ok g c =
    let options = values_of c.args.options.now in
    let F = c.args.formula in
    let p = c.in_ok-problem.problem in
    let found = c.in-Ok.found in
    let told = c.reduced.ensures in
    by_three (λ e. e.status ≡ Done) (λ e. e.written.items ≡ text_of (Finished (document_of p.formula (line_of p) found))) (λ e. e.said.items ≡ []) (IsAnswer ReduceGeneral options (F, tt)) c.reduced.result told.status told.written told.said
    (λ e status written said. record {
      result = subst (λ (s : Status). IsTrue (is_result s)) (sym status) refl;
      answers = done_answers options F p found (document_of p.formula (line_of p) found) e.status e.written.items e.said.items c.in_ok-problem.ensures told.formula told.limits
          (subst (λ (G : Cnf). IsKernelFound G options.conflicts found) c.left.ensures c.in-Ok.ensures.found) refl status written said;
    })

pub returns-in-Err-Unfinished : goal.returns-in-Err-Unfinished
returns-in-Err-Unfinished g c =
    let options = values_of c.args.options.now in
    let F = c.args.formula in
    let p = c.in_ok-problem.problem in
    let d = c.open_document-document in
    let rounds = c.in-Err-Unfinished.rounds in
    let budget = c.get-in-Err-Unfinished.ensures in
    let is : c.in-Err-Unfinished.field-0 ≡ AnUnfinished rounds = cc c.in-Err-Unfinished.is in
    let h : IsFirstUnfinished c.left.result.now options.conflicts rounds = subst (λ (s : GeneralStop). IsStopOf c.left.result.now options.conflicts s) is c.in-Err-Unfinished.ensures.stop in
    let told = d.ensures.document ∙ (λ i. open_document_of p.formula (line_of p) (budget.value i) rounds) in
    by_three (λ e. e.status ≡ Budget) (λ e. e.written.items ≡ text_of (Unfinished d.result)) (λ e. e.said.items ≡ conflicts_line d.result.learned) (IsAnswer ReduceGeneral options (F, tt)) c.unfinished.result c.unfinished.ensures.status c.unfinished.ensures.written c.unfinished.ensures.said
    (λ e status written said. record {
      result = subst (λ (s : Status). IsTrue (is_result s)) (sym status) refl;
      answers = open_answers options F p rounds d.result e.status e.written.items e.said.items c.in_ok-problem.ensures d.ensures.formula d.ensures.limits
          (subst (λ (G : Cnf). IsFirstUnfinished G options.conflicts rounds) c.left.ensures h) (subst (λ (n : ℕ). n < 2 ^ 63) budget.value budget.most) told status written said;
    })
