use Rattle.std.proofs.lemmas.Result.{err_from_is_err_and}
use Rattle.workbench.proofs.Names.{two_names}
use Rattle.workbench.proofs.Performing.{stopped, no_memory, performed}
use Rattle.workbench.proofs.command.edits.perform.Goals as goal

pub returns-in_err-read : goal.returns-in_err-read
returns-in_err-read g c =
    let p = err_from_is_err_and c.from_residual.result c.from_residual.ensures.1 in
    let stop = c.in_err-read.ensures in
    rw (p.1, p.2) (stopped _ _ c.in_err-read.field-0.0 (rw (two_names c.args.names.now c.requires.names) stop.stop) stop.cause stop.well)

pub returns-in_err-answer : goal.returns-in_err-answer
returns-in_err-answer g c =
    let p = err_from_is_err_and c.from_residual-in_err-answer.result c.from_residual-in_err-answer.ensures.1 in
    rw (p.1, p.2) (no_memory _ _ c.in_ok-read.ensures.cause)

pub returns : goal.returns
returns g c =
    let read = c.in_ok-read.ensures in
    performed _ _ (c.in_ok-read.read.formula, (c.in_ok-read.read.edits, tt)) c.in_ok-answer.field-0 (rw (two_names c.args.names.now c.requires.names) read.read) c.in_ok-answer.ensures read.cause read.well
