use Rattle.std.proofs.Common.{pos, ◌<ℤ◌, sym, ap, ◌∙◌, subst}
use Rattle.std.specs.Int.RustNames.{FitsSigned}
use mir.Syntax.{w128}
use Rattle.std.proofs.lemmas.Int.{to_z-of_z}
use Rattle.lk_model.specs.Linear.Rows.{entry}
use Rattle.exact_rows.proofs.Divisors.{gcd_of_some}
use Rattle.exact_pivot.proofs.ends.denominator.Goals as goal

pub reduced-requires-clause-some : goal.reduced-requires-clause-some
reduced-requires-clause-some c =
    let x : FitsSigned w128 c.entry.result = record { sfits = c.entry.type_inv } in
    let y : FitsSigned w128 c.entry-2.result = record { sfits = c.entry-2.type_inv } in
    let some : pos 0 <ℤ c.entry.result = subst (λ z. pos 0 <ℤ z) (sym (c.entry.ensures.value ∙ ap (entry c.args.row.now.entries) c.basic.ensures)) c.requires.1 in
    simp to_z-of_z (gcd_of_some c.entry.result c.entry-2.result some)

pub returns-clause-positive : goal.returns-clause-positive
returns-clause-positive c =
    let x : FitsSigned w128 c.entry.result = record { sfits = c.entry.type_inv } in
    let y : FitsSigned w128 c.entry-2.result = record { sfits = c.entry-2.type_inv } in
    let some : pos 0 <ℤ c.entry.result = subst (λ z. pos 0 <ℤ z) (sym (c.entry.ensures.value ∙ ap (entry c.args.row.now.entries) c.basic.ensures)) c.requires.1 in
    let q : FitsSigned w128 c.reduced.result = record { sfits = c.reduced.type_inv } in
    let positive = simp to_z-of_z at (c.reduced.ensures.positive) in
    simp to_z-of_z (positive some)
