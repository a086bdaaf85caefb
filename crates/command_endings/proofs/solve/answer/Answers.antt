use Rattle.std.proofs.Common.{◌≡◌, ◌∷◌, [], None, refl, sym, subst}
use Rattle.std.specs.Prelude.{IsTrue}
use Rattle.lk_model.specs.Documents.Text.{text_of}
use Rattle.lk_model.specs.declared.document.Document.TheVariants.{Unfinished}
use Rattle.kernel_solve.specs.Solutions.{IsSolved}
use Rattle.reductions.specs.Founds.{open_document_of}
use Rattle.lk_model.specs.Documents.Answers.{answer_text}
use Rattle.lk_model.specs.declared.answer.Answer.TheVariants.{Model, Refuted}
use Rattle.command_words.specs.OptionRows.{values_of}
use Rattle.command_words.specs.declared.command.Command.TheVariants.{Solve}
use Rattle.command_endings.specs.Answering.{IsAnswer}
use Rattle.status_lines.specs.RunLines.{conflicts_line}
use Rattle.status_lines.specs.Statuses.{is_result}
use Rattle.status_lines.specs.declared.status.Status.{Status}
use Rattle.status_lines.specs.declared.status.Status.TheVariants.{Budget, Satisfiable, Unsatisfiable}
use Rattle.command_endings.proofs.EndingFacts.{by_three}
use Rattle.command_endings.proofs.SolveEndings.{model_answers, refuted_answers, open_answers}
use Rattle.command_endings.proofs.solve.answer.Goals as goal

pub returns-in-Model : goal.returns-in-Model
returns-in-Model g c =
    let F = c.args.formula in
    let options = values_of c.args.options.now in
    let literals = c.in-Model.literals in
    let h = subst (IsSolved F options.conflicts) c.in-Model.is c.in_ok-solved.ensures in
    by_three (λ e. e.status ≡ Satisfiable) (λ e. e.written.items ≡ answer_text (Model literals)) (λ e. e.said.items ≡ []) (IsAnswer Solve options (F, tt)) c.answered.result c.answered.ensures.status c.answered.ensures.written c.answered.ensures.said
    (λ e status written said. record {
      result = subst (λ (s : Status). IsTrue (is_result s)) (sym status) refl;
      answers = model_answers options F literals e.status e.written.items e.said.items h status written said;
    })

pub returns-in-Refuted : goal.returns-in-Refuted
returns-in-Refuted g c =
    let F = c.args.formula in
    let options = values_of c.args.options.now in
    let round = c.in-Refuted.round in
    let h = subst (IsSolved F options.conflicts) c.in-Refuted.is c.in_ok-solved.ensures in
    by_three (λ e. e.status ≡ Unsatisfiable) (λ e. e.written.items ≡ answer_text (Refuted round)) (λ e. e.said.items ≡ []) (IsAnswer Solve options (F, tt)) c.answered-in-Refuted.result c.answered-in-Refuted.ensures.status c.answered-in-Refuted.ensures.written c.answered-in-Refuted.ensures.said
    (λ e status written said. record {
      result = subst (λ (s : Status). IsTrue (is_result s)) (sym status) refl;
      answers = refuted_answers options F round e.status e.written.items e.said.items c.vars-vars.ensures.formula h status written said;
    })

pub returns-in-Stopped : goal.returns-in-Stopped
returns-in-Stopped g c =
    let F = c.args.formula in
    let options = values_of c.args.options.now in
    let round = c.in-Stopped.round in
    let h = subst (IsSolved F options.conflicts) c.in-Stopped.is c.in_ok-solved.ensures in
    let told = c.unfinished_round.ensures in
    by_three (λ e. e.status ≡ Budget) (λ e. e.written.items ≡ text_of (Unfinished (open_document_of F None options.conflicts (round ∷ [])))) (λ e. e.said.items ≡ conflicts_line options.conflicts) (IsAnswer Solve options (F, tt)) c.unfinished_round.result told.status told.written told.said
    (λ e status written said. record {
      result = subst (λ (s : Status). IsTrue (is_result s)) (sym status) refl;
      answers = open_answers options F round (round ∷ []) (open_document_of F None options.conflicts (round ∷ [])) e.status e.written.items e.said.items h refl refl status written said;
    })
