use Rattle.std.proofs.Common.{◌≤◌, pos, get_or, unsigned_abs, refl, arith, rules}
use Rattle.std.specs.Int.RustNames.{FitsSigned}
use mir.Syntax.{w128}
use mir.Val.{to_z}
use Rattle.std.proofs.lemmas.Int.{to_z-of_z}
use Rattle.exact_rows.specs.declared.sparse.Entry.{Entry}
use Rattle.exact_pivot.specs.Scattered.{lack_of}
use Rattle.exact_pivot.proofs.Positions.{less_step}
use Rattle.exact_pivot.proofs.start.lack.Goals as goal

abbrev none : Entry
none = record { column = 0; value = pos 0 }

pub loop-e-preserved : goal.loop-e-preserved
loop-e-preserved c =
    let here : Entry = get_or c.args.entries.now c.loop-e.e-index none in
    let x : FitsSigned w128 here.value = search rules in
    let y : FitsSigned w128 c.less-lack.result = record { sfits = c.less-lack.type_inv } in
    let value = simp to_z-of_z at (c.less-lack.ensures.value) in
    let most = simp to_z-of_z at (c.less-lack.ensures.most) in
    let unit : unsigned_abs here.value ≤ 1 = c.requires.units c.loop-e.e-index none (omega arith) in
    record {
      value = simp to_z-of_z (less_step (λ (e : Entry). e.value) c.args.entries.now c.loop-e.e-index none (to_z w128 c.loop-e.lack-bits) c.less-lack.result here.value (lack_of c.args.entries.now) (omega arith) value refl c.loop-e.invariant.value);
      most = simp to_z-of_z (omega (arith, most, c.loop-e.invariant.most, unit));
    }
