use Rattle.std.proofs.Common.{◌≡◌, ap, ◌∙◌, length, arith, Some, None, Ok, rules}
use Rattle.std.specs.Int.RustNames.{FitsSigned}
use mir.Syntax.{w128}
use Rattle.std.proofs.lemmas.Int.{to_z-of_z}
use Rattle.std.proofs.lemmas.Result.{err_from_is_err_and}
use Rattle.std.proofs.lemmas.List.{take_at}
use Rattle.exact_pivot.specs.Placed.{duals_with}
use Rattle.exact_pivot.proofs.Endings.{all_basic, gives_duals, wide_first, wide_second, duals_found}
use Rattle.exact_pivot.proofs.ends.duals.Goals as goal

pub returns-in_err-common : goal.returns-in_err-common
returns-in_err-common c =
    let p = err_from_is_err_and c.from_residual.result c.from_residual.ensures.1 in
    gives_duals c.args.column c.args.positions.now c.args.rows.now c.from_residual.result (rw (p.1, p.2) (wide_first _ _ _ c.in_err-common.ensures.wide))

pub returns-in_err-write_sums : goal.returns-in_err-write_sums
returns-in_err-write_sums c =
    let l : FitsSigned w128 c.in_ok-common.common = search rules in
    let value = c.in_ok-common.ensures.value in
    let wide = simp to_z-of_z at (c.in_err-write_sums.ensures.wide) in
    let p = err_from_is_err_and c.from_residual-in_err-write_sums.result c.from_residual-in_err-write_sums.ensures.1 in
    gives_duals c.args.column c.args.positions.now c.args.rows.now c.from_residual-in_err-write_sums.result
    (rw (p.1, p.2) (wide_second _ _ (Some _) c.in_ok-common.ensures.wide (rw (← value) wide)))

pub returns : goal.returns
returns c =
    let l : FitsSigned w128 c.in_ok-common.common = search rules in
    let value = c.in_ok-common.ensures.value in
    let wide = simp to_z-of_z at (c.in_ok-write_sums.ensures.wide) in
    let values = simp to_z-of_z at (c.in_ok-write_sums.ensures.value) in
    let numbers = simp to_z-of_z at (c.in_ok-numbers.ensures) in
    let long : c.in_ok-values.values.len ≡ length c.args.rows.now = c.in_ok-values.ensures.len in
    gives_duals c.args.column c.args.positions.now c.args.rows.now (Ok c.from_vec.result) (
      wide_second _ _ None c.in_ok-common.ensures.wide (rw (← value) wide),
      duals_found c.args.column c.args.positions.now c.args.rows.now _ _ _ _ value (c.deref.ensures.value ∙ take_at _ _ _ (omega (arith, long, c.in_ok-write_sums.ensures.length)) ∙ values) numbers (c.from_vec.ensures ∙ c.in_ok-with_positions.ensures ∙ ap (duals_with c.args.positions.now) c.deref-2.ensures.value),
    )

pub common-requires : goal.common-requires
common-requires c = all_basic c.args.column c.args.rows.now c.requires

pub write_sums-requires-clause-rows : goal.write_sums-requires-clause-rows
write_sums-requires-clause-rows c = all_basic c.args.column c.args.rows.now c.requires

pub placed-requires-clause-rows : goal.placed-requires-clause-rows
placed-requires-clause-rows c = all_basic c.args.column c.args.rows.now c.requires
