use Rattle.std.proofs.Common.{◌≡◌, pos, get_or, arith, rules, ◌∙◌}
use Rattle.std.specs.Int.RustNames.{FitsSigned}
use mir.Syntax.{w128}
use Rattle.std.proofs.lemmas.Int.{to_z-of_z}
use Rattle.exact_rows.specs.declared.sparse.Entry.{Entry}
use Rattle.exact_pivot.specs.Scattered.{times_sign}
use Rattle.exact_pivot.proofs.Pushes.{push_step}
use Rattle.exact_pivot.proofs.start.push_times.Goals as goal

abbrev none : Entry
none = record { column = 0; value = pos 0 }

pub loop-e-preserved : goal.loop-e-preserved
loop-e-preserved c =
    let here : Entry = get_or c.args.entries.now c.loop-e.e-index none in
    let s : FitsSigned w128 c.args.sign = search rules in
    let x : FitsSigned w128 here.value = search rules in
    let z : FitsSigned w128 c.signed.result = record { sfits = c.signed.type_inv } in
    let pushed = simp to_z-of_z at (c.in_ok-push.ensures.items) in
    let value = simp to_z-of_z at (c.signed.ensures.value) in
    let item : record { column = here.column; value = c.signed.result } ≡ times_sign c.args.sign here = λ i. record { column = here.column; value = value i } in
    let before = simp to_z-of_z at (c.loop-e.invariant) in
    simp to_z-of_z (pushed ∙ push_step (times_sign c.args.sign) c.args.entries.now c.args.row.now.items c.loop-e.row.items c.loop-e.e-index _ none (omega arith) before item)
