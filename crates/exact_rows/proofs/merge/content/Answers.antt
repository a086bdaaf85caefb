use Rattle.std.proofs.Common.{◌≡◌, ◌+◌, ◌-◌, ◌<◌, ap, arith, get_or, length, pos, sym, to_z, ◌∙◌}
use Rattle.std.specs.Int.RustNames.{FitsSigned}
use mir.Syntax.{w128}
use Rattle.std.proofs.lemmas.Int.{to_z-of_z}
use Rattle.exact_rows.specs.declared.sparse.Entry.{Entry}
use Rattle.exact_rows.proofs.Wides.{fits_in_range}
use Rattle.exact_rows.proofs.Contents.{content_of-more, content_of-one}
use Rattle.exact_rows.proofs.merge.content.Goals as goal

abbrev none : Entry
none = record { column = 0; value = pos 0 }

pub returns-then-divisor-eq1-clause-value : goal.returns-then-divisor-eq1-clause-value
returns-then-divisor-eq1-clause-value c =
    let one = sym (ap (λ n. to_z w128 n) c.if-divisor-eq1.true) in
    content_of-one c.loop-i.i c.args.entries.now (one ∙ c.loop-i.invariant.value)

pub loop-i-preserved : goal.loop-i-preserved
loop-i-preserved c =
    let entries = c.args.entries.now in
    let k = c.loop-i.i - 1 in
    let inside : k < length entries = omega arith in
    let next : k + 1 ≡ c.loop-i.i = omega arith in
    let here : Entry = get_or entries k none in
    let x : FitsSigned w128 here.value = fits_in_range here.value (c.requires k none inside).1 in
    let g : FitsSigned w128 c.gcd-divisor.result = record { sfits = c.gcd-divisor.type_inv } in
    let value = simp to_z-of_z at (c.gcd-divisor.ensures.value) in
    record {
      value = simp to_z-of_z (value ∙ content_of-more entries k c.loop-i.i none (to_z w128 c.loop-i.divisor-bits) inside next c.loop-i.invariant.value);
      range = simp to_z-of_z c.gcd-divisor.ensures.range;
    }
