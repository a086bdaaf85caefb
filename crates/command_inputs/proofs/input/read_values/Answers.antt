use Rattle.std.proofs.lemmas.Result.{err_from_is_err_and}
use Rattle.command_inputs.proofs.Streams.{Cause-then, Tells-then}
use Rattle.command_inputs.proofs.ModelReads.{stops_reading}
use Rattle.command_inputs.proofs.input.read_values.Goals as goal

pub returns-in_err-start_text-clause-stop : goal.returns-in_err-start_text-clause-stop
returns-in_err-start_text-clause-stop g c =
    let p = err_from_is_err_and c.from_residual-in_err-start_text.result c.from_residual-in_err-start_text.ensures.1 in
    rw (p.1, p.2) (stops_reading c.args.formula.now (g.H.Shelf.told c.args.shelf.now c.args.name.now) (g.H.Shelf.ailing c.start_text.new.shelf) c.in_err-start_text.field-0.0 c.in_err-start_text.ensures.stop)

pub returns-in_err-start_text-clause-cause : goal.returns-in_err-start_text-clause-cause
returns-in_err-start_text-clause-cause g c =
    let p = err_from_is_err_and c.from_residual-in_err-start_text.result c.from_residual-in_err-start_text.ensures.1 in
    rw (p.1, p.2) c.in_err-start_text.ensures.cause

pub returns-clause-model : goal.returns-clause-model
returns-clause-model g c = rw (← c.in_ok-start_text.ensures.unread) c.read_started_model.ensures.model

pub returns-clause-stop : goal.returns-clause-stop
returns-clause-stop g c = rw (← c.in_ok-start_text.ensures.unread) c.read_started_model.ensures.stop

pub returns-clause-cause : goal.returns-clause-cause
returns-clause-cause g c = Cause-then _ _ _ c.in_ok-start_text.ensures.cause c.read_started_model.ensures.cause

pub returns-clause-told : goal.returns-clause-told
returns-clause-told g c = Tells-then _ _ _ c.in_ok-start_text.ensures.told c.read_started_model.ensures.told
