use Rattle.std.proofs.lemmas.Result.{err_from_is_err_and}
use Rattle.linear_kernel.proofs.Leads.{both_dual, both_ok, both_units}
use Rattle.linear_kernel.proofs.counted.end_of.Goals as goal

pub returns-in_err-dual : goal.returns-in_err-dual
returns-in_err-dual c =
    let p = err_from_is_err_and c.from_residual.result c.from_residual.ensures.1 in
    rw (p.1, p.2) (both_dual c.args.pivots c.args.rows.now c.in_err-dual.field-0.0 c.in_err-dual.ensures)

pub returns-in_err-units : goal.returns-in_err-units
returns-in_err-units c =
    let p = err_from_is_err_and c.from_residual-in_err-units.result c.from_residual-in_err-units.ensures.1 in
    rw (p.1, p.2) (both_units c.args.pivots c.args.rows.now c.in_ok-dual.dual c.in_err-units.field-0.0 c.in_ok-dual.ensures c.in_err-units.ensures)

pub returns : goal.returns
returns c = both_ok c.args.pivots c.args.rows.now c.in_ok-dual.dual c.in_ok-units.units c.in_ok-dual.ensures c.in_ok-units.ensures
