use Rattle.std.proofs.Common.{rules, sym, subst, ◌∙◌, ℤ, ◌*ℤ◌}
use Rattle.std.specs.Int.RustNames.{FitsSigned}
use mir.Syntax.{w64, w128}
use Rattle.std.proofs.lemmas.Int.{to_z-of_z}
use Rattle.exact_rows.proofs.Wides.{fits_in_range, short_in_range}
use Rattle.exact_rows.proofs.result.short_product.Goals as goal

pub returns-in-Ok-Ok-clause-range : goal.returns-in-Ok-Ok-clause-range
returns-in-Ok-Ok-clause-range c =
    let left = c.ranges.left in
    let right = c.ranges.right in
    let first = simp to_z-of_z at (c.in-Ok-Ok.ensures) in
    let second = simp to_z-of_z at (c.in-Ok-Ok.ensures') in
    let x : FitsSigned w64 c.in-Ok-Ok.x = search rules in
    let y : FitsSigned w64 c.in-Ok-Ok.y = search rules in
    let one = c.from.ensures ∙ to_z-of_z w64 c.in-Ok-Ok.x x in
    let two = c.from-in-Ok-Ok.ensures ∙ to_z-of_z w64 c.in-Ok-Ok.y y in
    let p : FitsSigned w128 c.from.result = record { sfits = c.from.type_inv } in
    let q : FitsSigned w128 c.from-in-Ok-Ok.result = record { sfits = c.from-in-Ok-Ok.type_inv } in
    let small = short_in_range c.from.result c.from-in-Ok-Ok.result (subst (λ (z : ℤ). FitsSigned w64 z) (sym one) x) (subst (λ (z : ℤ). FitsSigned w64 z) (sym two) y) in
    let fits : FitsSigned w128 (c.from.result *ℤ c.from-in-Ok-Ok.result) = fits_in_range (c.from.result *ℤ c.from-in-Ok-Ok.result) small in
    simp to_z-of_z small
