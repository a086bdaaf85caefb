use Rattle.std.proofs.Common.{◌+◌, ◌∙◌, pos, get_or, length, Ok, refl, rules, arith}
use Rattle.std.specs.Int.RustNames.{FitsSigned}
use mir.Syntax.{w128}
use Rattle.std.proofs.lemmas.Int.{to_z-of_z}
use Rattle.std.proofs.lemmas.Result.{err_from_is_err_and}
use Rattle.exact_pivot.specs.Placed.{unit_in, units_in}
use Rattle.exact_pivot.proofs.Endings.{all_basic, gives_units, units_stop, units_past, units_none, units_step, units_end}
use Rattle.exact_pivot.proofs.ends.units.Goals as goal

pub returns-in_err-unit : goal.returns-in_err-unit
returns-in_err-unit c =
    let p = err_from_is_err_and c.from_residual-in_err-unit.result c.from_residual-in_err-unit.ensures.1 in
    gives_units c.args.positions.now c.args.vars.now c.args.signs.now c.args.rows.now c.from_residual-in_err-unit.result
    (rw (p.1, p.2) (units_stop (length c.args.positions.now) (length c.args.vars.now) c.args.rows.now c.loop-j.j (length c.args.positions.now + c.loop-j.j + 1)
    (unit_in c.args.positions.now c.args.rows.now (length c.args.positions.now + c.loop-j.j + 1) (get_or c.args.signs.now c.loop-j.j (pos 0)) (get_or c.args.vars.now c.loop-j.j 0))
    (units_in c.args.positions.now c.args.vars.now c.args.signs.now c.args.rows.now) c.in_err-unit.field-0.0 (omega arith) refl c.loop-j.invariant.wide c.in_err-unit.ensures))

pub loop-j-preserved : goal.loop-j-preserved
loop-j-preserved c =
    let sign : FitsSigned w128 (get_or c.args.signs.now c.loop-j.j (pos 0)) = search rules in
    let told = simp to_z-of_z at (c.in_ok-unit.ensures) in
    record {
      value = c.in_ok-push.ensures.items ∙ units_step c.args.positions.now c.args.vars.now c.args.signs.now c.args.rows.now c.loop-j.j (length c.args.positions.now + c.loop-j.j + 1) (get_or c.args.signs.now c.loop-j.j (pos 0)) (get_or c.args.vars.now c.loop-j.j 0)
          c.loop-j.units.items c.in_ok-unit.field-0 (omega arith) refl refl refl told.1 c.loop-j.invariant.value;
      wide = units_past (length c.args.positions.now) (length c.args.vars.now) c.args.rows.now c.loop-j.j (length c.args.positions.now + c.loop-j.j + 1) (omega arith) refl c.loop-j.invariant.wide told.0;
    }

pub returns : goal.returns
returns c =
    gives_units c.args.positions.now c.args.vars.now c.args.signs.now c.args.rows.now (Ok c.from_vec.result) (
      units_none (length c.args.positions.now) (length c.args.vars.now) c.args.rows.now c.loop-j.j (omega arith) c.loop-j.invariant.wide,
      c.from_vec.ensures ∙ units_end c.args.positions.now c.args.vars.now c.args.signs.now c.args.rows.now c.loop-j.j _ (omega arith) c.loop-j.invariant.value,
    )

pub unit-requires-clause-rows : goal.unit-requires-clause-rows
unit-requires-clause-rows c = all_basic (length c.args.positions.now + length c.args.vars.now + 2) c.args.rows.now c.requires.rows
