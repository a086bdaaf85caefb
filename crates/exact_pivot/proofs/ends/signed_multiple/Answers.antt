use Rattle.std.proofs.Common.{[], int_div}
use Rattle.lk_model.specs.Linear.Ends.{numerator, denominator}
use Rattle.std.proofs.lemmas.Int.{to_z-of_z}
use Rattle.std.proofs.lemmas.Result.{err_from_is_err_and}
use Rattle.lk_model.specs.declared.wide.Op.TheVariants.{Product}
use Rattle.exact_pivot.proofs.Firsts.{made-err, made-one}
use Rattle.exact_pivot.proofs.ends.signed_multiple.Goals as goal

pub returns-in_err-multiple-clause-wide : goal.returns-in_err-multiple-clause-wide
returns-in_err-multiple-clause-wide c =
    let l = c.ranges.common in
    let p = err_from_is_err_and c.from_residual.result c.from_residual.ensures.1 in
    let told = simp to_z-of_z at (c.in_err-multiple.ensures) in
    rw (p.1, p.2) (made-err Product (int_div c.args.common (denominator c.args.column c.args.row.now)) (numerator c.args.column c.args.row.now) [] _ told)

pub returns-clause-wide : goal.returns-clause-wide
returns-clause-wide c =
    let l = c.ranges.common in
    let told = simp to_z-of_z at (c.in_ok-multiple.ensures) in
    made-one Product (int_div c.args.common (denominator c.args.column c.args.row.now)) (numerator c.args.column c.args.row.now) c.in_ok-multiple.field-0 told
