use Rattle.std.proofs.Common.{arith, rules, pos, get_or, int_div, ap, ◌∙◌}
use Rattle.std.specs.Int.RustNames.{FitsSigned}
use mir.Syntax.{w128}
use Rattle.std.proofs.lemmas.Int.{ints, to_z-of_z}
use Rattle.exact_rows.specs.declared.sparse.Entry.{Entry}
use Rattle.exact_rows.specs.Merged.{content_of, divided}
use Rattle.exact_rows.proofs.Quotients.{step_mapped}
use Rattle.exact_rows.proofs.Contents.{divided_already}
use Rattle.exact_rows.proofs.merge.divide.Goals as goal

abbrev none : Entry
none = record { column = 0; value = pos 0 }

pub loop-e-preserved : goal.loop-e-preserved
loop-e-preserved c =
    let here : Entry = get_or c.loop-e.entries c.loop-e.e-index none in
    let x : FitsSigned w128 here.value = search rules in
    let d : FitsSigned w128 c.content-divisor.result = record { sfits = c.content-divisor.type_inv } in
    let z : FitsSigned w128 c.quotient-e.result = record { sfits = c.quotient-e.type_inv } in
    let value = simp to_z-of_z at (c.quotient-e.ensures.value) ∙ ap (λ g. int_div here.value g) c.content-divisor.ensures.value in
    simp to_z-of_z (step_mapped (divided (content_of c.args.entries.now)) c.args.entries.now c.loop-e.entries c.loop-e.e-index (record { column = here.column; value = c.quotient-e.result }) none (omega arith) c.loop-e.invariant (λ i. record { column = here.column; value = value i }))

pub returns-else-divisor-gt1 : goal.returns-else-divisor-gt1
returns-else-divisor-gt1 c =
    divided_already c.args.entries.now c.content-divisor.result c.requires c.content-divisor.ensures.value (omega (arith, ints, c.if-divisor-gt1.false))
