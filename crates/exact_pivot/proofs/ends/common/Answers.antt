use Rattle.std.proofs.Common.{arith, rules}
use Rattle.std.specs.Int.RustNames.{FitsSigned}
use mir.Syntax.{w128}
use mir.Val.{to_z}
use Rattle.std.proofs.lemmas.Int.{to_z-of_z}
use Rattle.std.proofs.lemmas.Result.{err_from_is_err_and}
use Rattle.exact_pivot.proofs.Joins.{join_value, join_made, join_wide, join_made_end}
use Rattle.exact_pivot.proofs.ends.common.Goals as goal

pub returns-in_err-common-clause-wide : goal.returns-in_err-common-clause-wide
returns-in_err-common-clause-wide c =
    let q : FitsSigned w128 c.denominator.result = record { sfits = c.denominator.type_inv } in
    let told = simp to_z-of_z at (c.in_err-common.ensures.made) in
    let p = err_from_is_err_and c.from_residual.result c.from_residual.ensures.1 in
    rw (p.1, p.2) (join_wide c.args.column c.args.rows.now c.loop-row.row-index c.row-item.result (to_z w128 c.loop-row.common-bits) c.denominator.result _ _ (omega arith) c.row-item.is c.denominator.ensures.value told c.loop-row.invariant.wide)

pub loop-row-preserved : goal.loop-row-preserved
loop-row-preserved c =
    let q : FitsSigned w128 c.denominator.result = record { sfits = c.denominator.type_inv } in
    let z : FitsSigned w128 c.in_ok-common.common = search rules in
    let told = simp to_z-of_z at (c.in_ok-common.ensures.made) in
    record {
      value = simp to_z-of_z (join_value c.args.column c.args.rows.now c.loop-row.row-index c.row-item.result (to_z w128 c.loop-row.common-bits) c.denominator.result c.in_ok-common.common _ (omega arith) c.row-item.is c.denominator.ensures.value told c.loop-row.invariant.value);
      wide = simp to_z-of_z (join_made c.args.column c.args.rows.now c.loop-row.row-index c.row-item.result (to_z w128 c.loop-row.common-bits) c.denominator.result c.in_ok-common.common _ (omega arith) c.row-item.is c.denominator.ensures.value told c.loop-row.invariant.wide);
      positive = simp to_z-of_z c.in_ok-common.ensures.positive;
      range = simp to_z-of_z told.0;
    }

pub returns-clause-wide : goal.returns-clause-wide
returns-clause-wide c = join_made_end c.args.column c.args.rows.now c.loop-row.row-index (to_z w128 c.loop-row.common-bits) _ (omega arith) c.loop-row.invariant.wide
