use Rattle.std.proofs.Common.{◌≡◌, ◌+◌, ◌-◌, ◌<◌, ap, arith, get_or, length, pos, sym, to_z, ◌∙◌}
use Rattle.std.specs.Int.RustNames.{FitsSigned}
use mir.Syntax.{w128}
use Rattle.std.proofs.lemmas.Int.{to_z-of_z}
use Rattle.exact_rows.proofs.Wides.{fits_in_range}
use Rattle.exact_rows.proofs.Contents.{content-more, content-one}
use Rattle.exact_rows.proofs.row.content.Goals as goal

pub returns-then-divisor-eq1 : goal.returns-then-divisor-eq1
returns-then-divisor-eq1 c =
    let one = sym (ap (λ n. to_z w128 n) c.if-divisor-eq1.true) in
    content-one c.loop-i.i c.args.row.now (one ∙ c.loop-i.invariant.value)

pub loop-i-preserved : goal.loop-i-preserved
loop-i-preserved c =
    let row = c.args.row.now in
    let k = c.loop-i.i - 1 in
    let inside : k < length row = omega arith in
    let next : k + 1 ≡ c.loop-i.i = omega arith in
    let x : FitsSigned w128 (get_or row k (pos 0)) = fits_in_range (get_or row k (pos 0)) (c.requires k (pos 0) inside) in
    let g : FitsSigned w128 c.gcd-divisor.result = record { sfits = c.gcd-divisor.type_inv } in
    let value = simp to_z-of_z at (c.gcd-divisor.ensures.value) in
    record {
      value = simp to_z-of_z (value ∙ content-more row k c.loop-i.i (to_z w128 c.loop-i.divisor-bits) inside next c.loop-i.invariant.value);
      range = simp to_z-of_z c.gcd-divisor.ensures.range;
    }
