use Rattle.std.proofs.Common.{pos, get_or, ◌-◌, arith, rules}
use Rattle.std.specs.Int.RustNames.{FitsSigned}
use mir.Syntax.{w128}
use Rattle.std.proofs.lemmas.Int.{to_z-of_z}
use Rattle.exact_pivot.proofs.Placings.{placed_init, placed_here, placed_past}
use Rattle.exact_pivot.proofs.ends.placed.Goals as goal

pub loop-i-init : goal.loop-i-init
loop-i-init c =
    let d = c.ranges.elsewhere in
    let items = simp to_z-of_z at (c.in_ok-numbers.ensures.items) in
    simp to_z-of_z (placed_init c.args.elsewhere c.args.clause_count c.args.rows.now c.args.values.now c.in_ok-numbers.numbers.items items (search rules))

pub loop-i-preserved-then-column-clause_count : goal.loop-i-preserved-then-column-clause_count
loop-i-preserved-then-column-clause_count c =
    let d = c.ranges.elsewhere in
    let z : FitsSigned w128 (get_or c.args.values.now (c.loop-i.i - 1) (pos 0)) = search rules in
    let before = simp to_z-of_z at (c.loop-i.invariant) in
    simp to_z-of_z (placed_here c.args.elsewhere c.args.clause_count c.args.rows.now c.args.values.now c.loop-i.numbers.items (c.loop-i.i - 1) c.loop-i.i c.index-rows-i.result c.basic-column.result (omega arith) (omega arith) (omega arith) before c.index-rows-i.is c.basic-column.ensures (search rules) (omega arith))

pub loop-i-preserved : goal.loop-i-preserved
loop-i-preserved c =
    let d = c.ranges.elsewhere in
    let before = simp to_z-of_z at (c.loop-i.invariant) in
    simp to_z-of_z (placed_past c.args.elsewhere c.args.clause_count c.args.rows.now c.args.values.now c.loop-i.numbers.items (c.loop-i.i - 1) c.loop-i.i c.index-rows-i.result c.basic-column.result (omega arith) (omega arith) (omega arith) before c.index-rows-i.is c.basic-column.ensures (omega arith))
