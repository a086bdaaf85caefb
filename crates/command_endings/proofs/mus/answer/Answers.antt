use Rattle.std.proofs.Common.{◌≡◌, ◌∷◌, [], None, refl, sym, subst}
use Rattle.std.specs.Prelude.{IsTrue}
use Rattle.lk_model.specs.Documents.Text.{text_of}
use Rattle.lk_model.specs.Formulas.Formula.{is_formula, IsWithinLimits}
use Rattle.lk_model.specs.declared.document.Document.TheVariants.{Unfinished}
use Rattle.mus_core.specs.Found.{IsMus, TakesEmpty}
use Rattle.mus_core.specs.declared.mus.Mus.{Mus}
use Rattle.reductions.specs.Founds.{open_document_of}
use Rattle.lk_model.specs.Documents.Answers.{answer_text}
use Rattle.lk_model.specs.declared.answer.Answer.TheVariants.{Model, Core}
use Rattle.command_words.specs.OptionRows.{values_of}
use Rattle.command_words.specs.declared.command.Command.TheVariants as command
use Rattle.command_endings.specs.Answering.{IsAnswer}
use Rattle.status_lines.specs.RunLines.{conflicts_line}
use Rattle.status_lines.specs.Statuses.{is_result}
use Rattle.status_lines.specs.declared.status.Status.{Status}
use Rattle.status_lines.specs.declared.status.Status.TheVariants.{Done, Budget, Satisfiable}
use Rattle.command_endings.proofs.EndingFacts.{by_three, by_five}
use Rattle.command_endings.proofs.MusEndings.{core_answers, model_answers, open_answers}
use Rattle.command_endings.proofs.mus.answer.Goals as goal

pub returns-in-Core : goal.returns-in-Core
returns-in-Core c =
    let F = c.args.formula in
    let options = values_of c.args.options.now in
    let r = c.in-Core.core in
    let core = c.in_ok-core-in-Core.core in
    let made = c.in_ok-core-in-Core.ensures in
    let h = subst (λ (m : Mus). IsMus F options.conflicts m) c.in-Core.is c.in_ok-found.ensures.found in
    let empty = subst (TakesEmpty F) c.in-Core.is c.in_ok-found.ensures.empty in
    by_three (λ e. e.status ≡ Done) (λ e. e.written.items ≡ answer_text (Core core)) (λ e. e.said.items ≡ []) (IsAnswer command.Mus options (F, tt)) c.answered.result c.answered.ensures.status c.answered.ensures.written c.answered.ensures.said
    (λ e status written said. record {
      result = subst (λ (s : Status). IsTrue (is_result s)) (sym status) refl;
      answers = core_answers options F r core e.status e.written.items e.said.items made.formula made.limits h empty made.answer status written said;
    })

pub returns-in-Model : goal.returns-in-Model
returns-in-Model c =
    let F = c.args.formula in
    let options = values_of c.args.options.now in
    let literals = c.in-Model.literals in
    let h = subst (λ (m : Mus). IsMus F options.conflicts m) c.in-Model.is c.in_ok-found.ensures.found in
    by_three (λ e. e.status ≡ Satisfiable) (λ e. e.written.items ≡ answer_text (Model literals)) (λ e. e.said.items ≡ []) (IsAnswer command.Mus options (F, tt)) c.answered-in-Model.result c.answered-in-Model.ensures.status c.answered-in-Model.ensures.written c.answered-in-Model.ensures.said
    (λ e status written said. record {
      result = subst (λ (s : Status). IsTrue (is_result s)) (sym status) refl;
      answers = model_answers options F literals e.status e.written.items e.said.items h status written said;
    })

pub returns : goal.returns
returns c =
    let F = c.args.formula in
    let options = values_of c.args.options.now in
    let u = c.in-Unfinished in
    let d = open_document_of u.texts None options.conflicts (u.round ∷ []) in
    let h = subst (λ (m : Mus). IsMus F options.conflicts m) u.is c.in_ok-found.ensures.found in
    let empty = subst (TakesEmpty F) u.is c.in_ok-found.ensures.empty in
    let told = c.unfinished_round.ensures in
    by_five (λ e. e.status ≡ Budget) (λ e. e.written.items ≡ text_of (Unfinished d)) (λ e. e.said.items ≡ conflicts_line options.conflicts) (λ _. IsTrue (is_formula u.texts)) (λ _. IsWithinLimits u.texts) (IsAnswer command.Mus options (F, tt)) c.unfinished_round.result
    told.status told.written told.said told.formula told.limits
    (λ e status written said formula limits. record {
      result = subst (λ (s : Status). IsTrue (is_result s)) (sym status) refl;
      answers = open_answers options F u.part u.texts u.round (u.round ∷ []) d e.status e.written.items e.said.items formula limits h empty told.most refl refl status written said;
    })
