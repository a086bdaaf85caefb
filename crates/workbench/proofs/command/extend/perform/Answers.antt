use Rattle.std.proofs.Common.{[], ◌∷◌, subst}
use Rattle.std.proofs.lemmas.Result.{err_from_is_err_and}
use Rattle.lk_model.specs.Formulas.Assignment.{Assignment}
use Rattle.lk_model.specs.Held.PartialValues.{assignment_by}
use Rattle.command_words.specs.declared.shape.Grammar.TheVariants.{Formula, Document, Model}
use Rattle.command_words.proofs.Texts.{text_at}
use Rattle.command_inputs.specs.Inputs.{nothing_known}
use Rattle.command_inputs.proofs.ModelReads.{stops_before, stops_behind, model_behind}
use Rattle.command_inputs.proofs.Streams.{Cause-then}
use Rattle.command_endings.specs.Commands.Extend.{outcome_of, Tells}
use Rattle.command_endings.proofs.Extensions.{outcome_result}
use Rattle.workbench.proofs.Names.{three_names}
use Rattle.workbench.proofs.Performing.{stopped, no_memory, performed}
use Rattle.workbench.proofs.command.extend.perform.Goals as goal

pub returns-in_err-read : goal.returns-in_err-read
returns-in_err-read g c =
    let shelf = g.H.Shelf in
    let names = c.args.names.now in
    let p = err_from_is_err_and c.from_residual.result c.from_residual.ensures.1 in
    let stop = c.in_err-read.ensures in
    rw (p.1, p.2) (stopped _ _ c.in_err-read.field-0.0
    (rw (three_names names c.requires.names) (stops_before (shelf.told c.args.shelf.now) nothing_known (Formula ∷ Document ∷ []) (Model ∷ []) (text_at names 0 ∷ text_at names 1 ∷ []) (text_at names 2 ∷ []) (shelf.ailing c.read_checked.new.shelf) (shelf.current c.read_checked.new.shelf) c.in_err-read.field-0.0 stop.stop))
    stop.cause stop.well)

pub returns-in-Err : goal.returns-in-Err
returns-in-Err g c =
    let shelf = g.H.Shelf in
    let names = c.args.names.now in
    let read = c.in_ok-read.ensures in
    let stop = c.in-Err.ensures in
    stopped _ _ c.in-Err.stop
    (rw (three_names names c.requires.names) (stops_behind (shelf.told c.args.shelf.now) (shelf.told c.read_checked.new.shelf) (text_at names 0) (text_at names 1) (text_at names 2) c.in_ok-read.read.formula c.in_ok-read.read.document (shelf.ailing c.read_values.new.shelf) (shelf.current c.read_values.new.shelf)
    c.in-Err.stop read.told read.read stop.stop stop.current))
    (Cause-then _ _ _ read.cause stop.cause) stop.well

pub returns-in_err-ending-in-Ok : goal.returns-in_err-ending-in-Ok
returns-in_err-ending-in-Ok g c =
    let p = err_from_is_err_and c.from_residual-in_err-ending-in-Ok.result c.from_residual-in_err-ending-in-Ok.ensures.1 in
    rw (p.1, p.2) (no_memory _ _ (Cause-then _ _ _ c.in_ok-read.ensures.cause c.in-Ok.ensures.cause))

pub returns-in_ok-ending-in-Ok : goal.returns-in_ok-ending-in-Ok
returns-in_ok-ending-in-Ok g c =
    let shelf = g.H.Shelf in
    let names = c.args.names.now in
    let F = c.in_ok-read.read.formula in
    let d = c.in_ok-read.read.document in
    let e = c.in_ok-ending-in-Ok.field-0 in
    let read = c.in_ok-read.ensures in
    let model = c.in-Ok.ensures in
    let m = model_behind (shelf.told c.args.shelf.now) (shelf.told c.read_checked.new.shelf) (text_at names 2) F c.in-Ok.model read.told model.model in
    performed _ _ (F, (d, (m.literals, tt))) e (rw (three_names names c.requires.names) (read.read.0, (read.read.1.0, (m.text, tt)))) (record {
      result = outcome_result (outcome_of F d (assignment_by c.in-Ok.model)) e.status c.in_ok-ending-in-Ok.ensures.status_is;
      answers = subst (λ (φ : Assignment). Tells F d φ e.status e.written.items e.said.items) m.values_are c.in_ok-ending-in-Ok.ensures;
    }) (Cause-then _ _ _ read.cause model.cause) model.well
