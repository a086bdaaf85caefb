use Rattle.std.specs.Int.RustNames.{FitsSigned}
use mir.Syntax.{w128}
use Rattle.std.proofs.lemmas.Int.{to_z-of_z}
use Rattle.exact_rows.proofs.Divisors.{gcd_of_some}
use Rattle.exact_pivot.proofs.Joins.{made_some}
use Rattle.exact_pivot.proofs.ends.joined.Goals as goal

pub reduced-requires-clause-some : goal.reduced-requires-clause-some
reduced-requires-clause-some c =
    let l = c.ranges.l in
    let q = c.ranges.q in
    simp to_z-of_z (gcd_of_some c.args.l c.args.q c.requires.l_positive)

pub returns-clause-made : goal.returns-clause-made
returns-clause-made c =
    let l = c.ranges.l in
    let q = c.ranges.q in
    let x : FitsSigned w128 c.reduced.result = record { sfits = c.reduced.type_inv } in
    let value = simp to_z-of_z at (c.reduced.ensures.value) in
    let made = simp to_z-of_z at (c.product.ensures) in
    rw (← value) made

pub returns-clause-positive : goal.returns-clause-positive
returns-clause-positive c =
    let l = c.ranges.l in
    let q = c.ranges.q in
    let x : FitsSigned w128 c.reduced.result = record { sfits = c.reduced.type_inv } in
    let some = simp to_z-of_z at (c.reduced.ensures.positive) in
    let made = simp to_z-of_z at (c.product.ensures) in
    made_some c.reduced.result c.args.q c.product.result made (some c.requires.l_positive) c.requires.q_positive
