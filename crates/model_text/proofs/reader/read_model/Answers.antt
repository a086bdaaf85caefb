use Rattle.std.proofs.Common.{[]}
use Rattle.std.proofs.lemmas.Result.{err_from_is_err_and}
use Rattle.model_text.proofs.Standing.{settled_here}
use Rattle.model_text.proofs.reader.read_model.Goals as goal

pub returns-in_err-feed-clause-stop : goal.returns-in_err-feed-clause-stop
returns-in_err-feed-clause-stop c =
    let p = err_from_is_err_and c.from_residual-in_err-feed.result c.from_residual-in_err-feed.ensures.1 in
    rw (p.1, p.2) (settled_here c.args.n c.args.bytes.now c.in_err-feed.field-0.0 (c.in_err-feed.ensures.stop c.args.n [] c.in_ok-reader.ensures))

pub returns-clause-model : goal.returns-clause-model
returns-clause-model c = c.finish.ensures.model c.args.n c.args.bytes.now (c.in_ok-feed.ensures.fed c.args.n [] c.in_ok-reader.ensures)

pub returns-clause-stop : goal.returns-clause-stop
returns-clause-stop c = c.finish.ensures.stop c.args.n c.args.bytes.now (c.in_ok-feed.ensures.fed c.args.n [] c.in_ok-reader.ensures)
