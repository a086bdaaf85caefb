use Rattle.std.proofs.Common.{◌≡◌, ◌∙◌, [], refl, sym, subst}
use Rattle.std.specs.Prelude.{IsTrue}
use Rattle.lk_model.specs.Documents.Text.{text_of}
use Rattle.lk_model.specs.Formulas.Formula.{Cnf}
use Rattle.lk_model.specs.declared.class.Class.TheVariants.{Linear}
use Rattle.lk_model.specs.declared.document.Document.TheVariants.{Done as Finished}
use Rattle.reductions.specs.Founds.{TellsReduction, document_of}
use Rattle.reductions.specs.Protecting.{line_of}
use Rattle.reductions.proofs.Protecting.{left_without, problem_writes}
use Rattle.command_words.specs.OptionRows.{values_of}
use Rattle.command_words.specs.declared.command.Command.TheVariants.{ReduceLinear}
use Rattle.status_lines.specs.LinearStops.{TellsStop}
use Rattle.command_endings.specs.Answering.{IsAnswer}
use Rattle.status_lines.specs.Statuses.{is_result}
use Rattle.status_lines.specs.declared.status.Status.{Status}
use Rattle.status_lines.specs.declared.status.Status.TheVariants.{Done}
use Rattle.command_endings.proofs.LinearEndings.{done_answers, ends_done, stop_answers, stop_result}
use Rattle.command_endings.proofs.EndingFacts.{by_one, by_three}
use Rattle.command_endings.proofs.Problems.{positions_left}
use Rattle.command_endings.proofs.reduce.answer_linear.Goals as goal

pub reduced-requires : goal.reduced-requires
reduced-requires c =
    record { positions = positions_left c.args.formula (values_of c.args.options.now).protect c.in_ok-problem.problem c.left.result.now c.in-Ok.found.kept c.in_ok-problem.ensures c.left.ensures c.in-Ok.ensures.positions }

pub returns-in-Ok : goal.returns-in-Ok
returns-in-Ok c =
    let options = values_of c.args.options.now in
    let F = c.args.formula in
    let p = c.in_ok-problem.problem in
    let found = c.in-Ok.found in
    let told = c.reduced.ensures in
    by_three (λ e. e.status ≡ Done) (λ e. e.written.items ≡ text_of (Finished (document_of p.formula (line_of p) found))) (λ e. e.said.items ≡ []) (IsAnswer ReduceLinear options (F, tt)) c.reduced.result told.status told.written told.said
    (λ e status written said.
    let writes = problem_writes F Linear options.protect p found options.pivots (document_of p.formula (line_of p) found) e.written.items
    c.in_ok-problem.ensures told.formula told.limits
    (subst (λ (G : Cnf). TellsReduction Linear options.pivots G found) c.left.ensures c.in-Ok.ensures.reduces) refl written in
    record {
      result = subst (λ (s : Status). IsTrue (is_result s)) (sym status) refl;
      answers = done_answers options F c.left.result.now e.status e.written.items e.said.items (c.left.ensures ∙ left_without F options.protect p c.in_ok-problem.ensures)
          (ends_done options.pivots c.left.result.now c.in-Ok.ensures.done) status writes said;
    })

pub returns-in-Err : goal.returns-in-Err
returns-in-Err c =
    let options = values_of c.args.options.now in
    let F = c.args.formula in
    by_one (λ e. TellsStop c.in-Err.stop e.status e.written.items e.said.items) (IsAnswer ReduceLinear options (F, tt)) c.ending_of_linear_stop.result c.ending_of_linear_stop.ensures
    (λ e tells. record {
      result = stop_result c.in-Err.stop e.status e.written.items e.said.items tells;
      answers = stop_answers options F c.left.result.now c.in-Err.stop e.status e.written.items e.said.items (c.left.ensures ∙ left_without F options.protect c.in_ok-problem.problem c.in_ok-problem.ensures)
          c.in-Err.ensures.stop tells;
    })
