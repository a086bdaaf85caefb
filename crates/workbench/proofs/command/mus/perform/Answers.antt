use Rattle.std.proofs.Common.{refl}
use Rattle.std.proofs.lemmas.Result.{err_from_is_err_and}
use Rattle.command_words.proofs.Texts.{text_at}
use Rattle.workbench.proofs.Names.{one_name}
use Rattle.workbench.proofs.Performing.{formula_stopped, no_memory, performed}
use Rattle.workbench.proofs.command.mus.perform.Goals as goal

pub returns-in_err-formula : goal.returns-in_err-formula
returns-in_err-formula g c =
    let names = c.args.names.now in
    let p = err_from_is_err_and c.from_residual.result c.from_residual.ensures.1 in
    let stop = c.in_err-formula.ensures in
    rw (p.1, p.2) (formula_stopped _ _ (text_at names 0) c.in_err-formula.field-0.0 refl (one_name names c.requires.names) stop.stop stop.current stop.cause stop.well)

pub returns-in_err-answer : goal.returns-in_err-answer
returns-in_err-answer g c =
    let p = err_from_is_err_and c.from_residual-in_err-answer.result c.from_residual-in_err-answer.ensures.1 in
    rw (p.1, p.2) (no_memory _ _ c.in_ok-formula.ensures.cause)

pub returns : goal.returns
returns g c =
    let read = c.in_ok-formula.ensures in
    performed _ _ (c.in_ok-formula.formula, tt) c.in_ok-answer.field-0 (rw (one_name c.args.names.now c.requires.names) (read.formula, tt)) c.in_ok-answer.ensures read.cause read.well
