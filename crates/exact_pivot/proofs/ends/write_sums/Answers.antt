use Rattle.std.proofs.Common.{pos, map, sym, ap, ◌∙◌, arith, rules}
use Rattle.std.specs.Int.RustNames.{FitsSigned}
use mir.Syntax.{w128}
use Rattle.std.proofs.lemmas.Int.{to_z-of_z}
use Rattle.std.proofs.lemmas.List.{get_or-map, length-map}
use Rattle.std.proofs.lemmas.Result.{err_from_is_err_and}
use Rattle.exact_rows.proofs.Quotients.{step_written, end_written}
use Rattle.exact_pivot.specs.Placed.{sum_with, made_in_sum}
use Rattle.exact_pivot.proofs.Firsts.{flat_at, flat_past, flat_end}
use Rattle.exact_pivot.proofs.ends.write_sums.Goals as goal

pub returns-in_err-values-clause-wide : goal.returns-in_err-values-clause-wide
returns-in_err-values-clause-wide c =
    let l = c.ranges.common in
    let before = simp to_z-of_z at (c.loop-i.invariant.wide) in
    let told = simp to_z-of_z at (c.in_err-values.ensures.wide) in
    let p = err_from_is_err_and c.from_residual.result c.from_residual.ensures.1 in
    rw (p.1, p.2) (flat_at (made_in_sum c.args.common c.args.column) c.args.rows.now c.loop-i.i c.index-rows-i.result _ (omega arith) c.index-rows-i.is before told)

pub loop-i-preserved : goal.loop-i-preserved
loop-i-preserved c =
    let l = c.ranges.common in
    let z : FitsSigned w128 c.in_ok-values.field-0 = search rules in
    let written = simp to_z-of_z at (c.loop-i.invariant.value) in
    let before = simp to_z-of_z at (c.loop-i.invariant.wide) in
    let told = simp to_z-of_z at (c.in_ok-values.ensures.wide) in
    let value = simp to_z-of_z at (c.in_ok-values.ensures.value) in
    let size = length-map c.args.rows.now (sum_with c.args.common c.args.column) ∙ sym c.requires.lengths in
    record {
      value = simp to_z-of_z (step_written (map (sum_with c.args.common c.args.column) c.args.rows.now) c.args.values.now c.loop-i.values c.loop-i.i c.in_ok-values.field-0 size (omega arith) written
          (λ _. value ∙ ap (sum_with c.args.common c.args.column) c.index-rows-i.is ∙ sym (get_or-map (sum_with c.args.common c.args.column) c.args.rows.now c.loop-i.i c.index-rows-i.result (pos 0) (omega arith))));
      wide = simp to_z-of_z (flat_past (made_in_sum c.args.common c.args.column) c.args.rows.now c.loop-i.i c.index-rows-i.result (omega arith) c.index-rows-i.is before told);
    }

pub returns-clause-wide : goal.returns-clause-wide
returns-clause-wide c =
    let l = c.ranges.common in
    let before = simp to_z-of_z at (c.loop-i.invariant.wide) in
    flat_end (made_in_sum c.args.common c.args.column) c.args.rows.now c.loop-i.i (omega arith) before

pub returns-clause-value : goal.returns-clause-value
returns-clause-value c =
    let l = c.ranges.common in
    let written = simp to_z-of_z at (c.loop-i.invariant.value) in
    let size = length-map c.args.rows.now (sum_with c.args.common c.args.column) ∙ sym c.requires.lengths in
    end_written (map (sum_with c.args.common c.args.column) c.args.rows.now) c.args.values.now c.loop-i.values c.loop-i.i size (omega arith) written
