use Rattle.std.proofs.Common.{arith, rules, pos, get_or}
use Rattle.std.specs.Int.RustNames.{FitsSigned}
use mir.Syntax.{w128}
use Rattle.std.proofs.lemmas.Int.{to_z-of_z}
use Rattle.exact_rows.specs.declared.sparse.Entry.{Entry}
use Rattle.exact_rows.specs.Sparse.{negated}
use Rattle.exact_rows.proofs.Quotients.{step_mapped}
use Rattle.exact_rows.proofs.sparse.negate.Goals as goal

abbrev none : Entry
none = record { column = 0; value = pos 0 }

pub loop-e-preserved : goal.loop-e-preserved
loop-e-preserved c =
    let here : Entry = get_or c.loop-e.entries c.loop-e.e-index none in
    let x : FitsSigned w128 here.value = search rules in
    let z : FitsSigned w128 c.negative-e.result = record { sfits = c.negative-e.type_inv } in
    let value = simp to_z-of_z at (c.negative-e.ensures) in
    simp to_z-of_z (step_mapped negated c.args.entries.now c.loop-e.entries c.loop-e.e-index (record { column = here.column; value = c.negative-e.result }) none (omega arith) c.loop-e.invariant (λ i. record { column = here.column; value = value i }))
