use Rattle.std.proofs.Common.{◌≡◌, ap, ◌∙◌, length, arith, Some, None, rules}
use Rattle.std.specs.Int.RustNames.{FitsSigned}
use mir.Syntax.{w128}
use Rattle.std.proofs.lemmas.Int.{to_z-of_z}
use Rattle.std.proofs.lemmas.Result.{err_from_is_err_and}
use Rattle.std.proofs.lemmas.List.{take_at}
use Rattle.exact_pivot.specs.Placed.{shares_with}
use Rattle.exact_pivot.proofs.Endings.{wide_first, wide_second, unit_found}
use Rattle.exact_pivot.proofs.ends.unit.Goals as goal

pub returns-in_err-common : goal.returns-in_err-common
returns-in_err-common c =
    let p = err_from_is_err_and c.from_residual.result c.from_residual.ensures.1 in
    rw (p.1, p.2) (wide_first _ _ _ c.in_err-common.ensures.wide)

pub returns-in_err-write_multiples : goal.returns-in_err-write_multiples
returns-in_err-write_multiples c =
    let sign = c.ranges.sign in
    let l : FitsSigned w128 c.in_ok-common.common = search rules in
    let value = c.in_ok-common.ensures.value in
    let wide = simp to_z-of_z at (c.in_err-write_multiples.ensures.wide) in
    let p = err_from_is_err_and c.from_residual-in_err-write_multiples.result c.from_residual-in_err-write_multiples.ensures.1 in
    rw (p.1, p.2) (wide_second _ _ (Some _) c.in_ok-common.ensures.wide (rw (← value) wide))

pub returns : goal.returns
returns c =
    let sign = c.ranges.sign in
    let l : FitsSigned w128 c.in_ok-common.common = search rules in
    let value = c.in_ok-common.ensures.value in
    let wide = simp to_z-of_z at (c.in_ok-write_multiples.ensures.wide) in
    let values = simp to_z-of_z at (c.in_ok-write_multiples.ensures.value) in
    let long : c.in_ok-values.values.len ≡ length c.args.rows.now = c.in_ok-values.ensures.len in
    simp to_z-of_z (
      wide_second _ _ None c.in_ok-common.ensures.wide (rw (← value) wide),
      unit_found c.args.column c.args.positions.now c.args.rows.now c.args.sign _ c.args.var _ _ _ value (c.deref.ensures.value ∙ take_at _ _ _ (omega (arith, long, c.in_ok-write_multiples.ensures.length)) ∙ values) c.in_ok-numbers.ensures (c.from_vec.ensures ∙ c.in_ok-shares.ensures ∙ ap (shares_with c.args.positions.now) c.deref-2.ensures.value),
    )
