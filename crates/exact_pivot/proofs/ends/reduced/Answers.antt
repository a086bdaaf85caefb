use Rattle.std.proofs.Common.{pos, ◌<ℤ◌, int_div, sym, ap, ◌∙◌, subst}
use Rattle.std.specs.Int.RustNames.{FitsSigned}
use mir.Syntax.{w128}
use Rattle.std.proofs.lemmas.Int.{to_z-of_z}
use Rattle.exact_pivot.proofs.ends.reduced.Goals as goal
use Rattle.exact_pivot.proofs.Clearing.{reduced_some}

pub returns-clause-positive : goal.returns-clause-positive
returns-clause-positive c h =
    let x = c.ranges.x in
    let y = c.ranges.y in
    let g : FitsSigned w128 c.gcd.result = record { sfits = c.gcd.type_inv } in
    let q : FitsSigned w128 c.quotient.result = record { sfits = c.quotient.type_inv } in
    let divisor = simp to_z-of_z at (c.gcd.ensures.value) in
    let value = simp to_z-of_z at (c.quotient.ensures.value) in
    simp to_z-of_z (subst (λ z. pos 0 <ℤ z) (sym (value ∙ ap (int_div c.args.x) divisor)) (reduced_some c.args.x c.args.y h))
