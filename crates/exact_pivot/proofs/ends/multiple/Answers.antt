use Rattle.std.proofs.Common.{int_div, ◌∙◌, ap}
use Rattle.std.specs.Int.RustNames.{FitsSigned}
use mir.Syntax.{w128}
use Rattle.std.proofs.lemmas.Int.{to_z-of_z}
use Rattle.exact_pivot.proofs.ends.multiple.Goals as goal

pub returns : goal.returns
returns c =
    let l = c.ranges.common in
    let d : FitsSigned w128 c.denominator.result = record { sfits = c.denominator.type_inv } in
    let q : FitsSigned w128 c.quotient.result = record { sfits = c.quotient.type_inv } in
    let n : FitsSigned w128 c.numerator.result = record { sfits = c.numerator.type_inv } in
    let quotient = simp to_z-of_z at (c.quotient.ensures.value) in
    let made = simp to_z-of_z at (c.product.ensures) in
    let left = quotient ∙ ap (int_div c.args.common) c.denominator.ensures.value in
    let right = c.numerator.ensures.value in
    rw (← left, ← right) made
