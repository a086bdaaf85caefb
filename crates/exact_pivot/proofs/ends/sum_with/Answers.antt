use Rattle.std.proofs.Common.{int_div, ◌∷◌, []}
use Rattle.std.proofs.lemmas.Int.{to_z-of_z}
use Rattle.std.proofs.lemmas.Result.{err_from_is_err_and}
use Rattle.lk_model.specs.Linear.Arithmetic.{made}
use Rattle.lk_model.specs.Linear.Ends.{numerator, denominator}
use Rattle.lk_model.specs.declared.wide.Op.TheVariants.{Product, Sum}
use Rattle.exact_rows.proofs.Wides.{fits_in_range}
use Rattle.exact_pivot.specs.Placed.{multiple_of}
use Rattle.exact_pivot.proofs.Firsts.{made-err, made-two, made-value}
use Rattle.exact_pivot.proofs.ends.sum_with.Goals as goal

pub returns-in_err-multiple-clause-wide : goal.returns-in_err-multiple-clause-wide
returns-in_err-multiple-clause-wide c =
    let l = c.ranges.common in
    let p = err_from_is_err_and c.from_residual.result c.from_residual.ensures.1 in
    let wide = simp to_z-of_z at (c.in_err-multiple.ensures) in
    rw (p.1, p.2) (made-err Product (int_div c.args.common (denominator c.args.column c.args.row.now)) (numerator c.args.column c.args.row.now) (made Sum c.args.common (multiple_of c.args.common c.args.column c.args.row.now) ∷ []) _ wide)

pub returns-clause-wide : goal.returns-clause-wide
returns-clause-wide c =
    let l = c.ranges.common in
    let first = simp to_z-of_z at (c.in_ok-multiple.ensures) in
    let x = fits_in_range c.in_ok-multiple.field-0 first.0 in
    let last = simp to_z-of_z at (c.sum.ensures) in
    let then = rw (first.1) at last in
    made-two Product Sum (int_div c.args.common (denominator c.args.column c.args.row.now)) (numerator c.args.column c.args.row.now) c.args.common (multiple_of c.args.common c.args.column c.args.row.now) c.in_ok-multiple.field-0 c.sum.result first then

pub returns-clause-value : goal.returns-clause-value
returns-clause-value c =
    let l = c.ranges.common in
    let first = simp to_z-of_z at (c.in_ok-multiple.ensures) in
    let x = fits_in_range c.in_ok-multiple.field-0 first.0 in
    let last = simp to_z-of_z at (c.sum.ensures) in
    made-value Sum c.args.common (multiple_of c.args.common c.args.column c.args.row.now) c.sum.result (rw (first.1) at last)
