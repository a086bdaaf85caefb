use Rattle.std.proofs.Common.{◌≡◌, length, map, sym, ◌∙◌, ap, subst, rules, ℕ, of_z, to_z}
use Rattle.lk_model.specs.Linear.Arithmetic.{first_wide}
use Rattle.lk_model.specs.Linear.Pivot.{made_in_row}
use Rattle.exact_rows.specs.Made.{made_by}
use Rattle.std.specs.Int.RustNames.{FitsSigned}
use mir.Syntax.{w128}
use Rattle.std.proofs.lemmas.Int.{to_z-of_z}
use Rattle.std.proofs.lemmas.List.{length-map}
use Rattle.std.proofs.lemmas.Result.{err_from_is_err_and}
use Rattle.exact_rows.specs.Sparse.{AreEntries, row_of}
use Rattle.exact_rows.specs.Merged.{content_of, divided}
use Rattle.exact_rows.proofs.Divisors.{gcd_of_some}
use Rattle.exact_rows.proofs.Quotients.{written_back}
use Rattle.exact_rows.proofs.Contents.{are_entries-divided}
use Rattle.exact_rows.proofs.Combining.{stops_alike, same_results, combined_by}
use Rattle.exact_rows.proofs.merge.combine_sparse.Goals as goal

pub quotient-scale-requires-clause-divisor : goal.quotient-scale-requires-clause-divisor
quotient-scale-requires-clause-divisor c =
    let p = c.ranges.p in
    let f = c.ranges.f in
    let g : FitsSigned w128 c.gcd-divisor.result = record { sfits = c.gcd-divisor.type_inv } in
    let value = simp to_z-of_z at (c.gcd-divisor.ensures.value) in
    simp to_z-of_z (rw value (gcd_of_some c.args.p c.args.f c.requires.p_positive))

pub quotient-share-requires-clause-divisor : goal.quotient-share-requires-clause-divisor
quotient-share-requires-clause-divisor c =
    let p = c.ranges.p in
    let f = c.ranges.f in
    let g : FitsSigned w128 c.gcd-divisor.result = record { sfits = c.gcd-divisor.type_inv } in
    let value = simp to_z-of_z at (c.gcd-divisor.ensures.value) in
    simp to_z-of_z (rw value (gcd_of_some c.args.p c.args.f c.requires.p_positive))

pub returns-in_err-entries-clause-ends : goal.returns-in_err-entries-clause-ends
returns-in_err-entries-clause-ends c =
    let p = c.ranges.p in
    let f = c.ranges.f in
    let g : FitsSigned w128 c.gcd-divisor.result = record { sfits = c.gcd-divisor.type_inv } in
    let scale : FitsSigned w128 c.quotient-scale.result = record { sfits = c.quotient-scale.type_inv } in
    let share : FitsSigned w128 c.quotient-share.result = record { sfits = c.quotient-share.type_inv } in
    let divisor = simp to_z-of_z at (c.gcd-divisor.ensures.value) in
    let first = simp to_z-of_z at (c.quotient-scale.ensures.value) in
    let second = simp to_z-of_z at (c.quotient-share.ensures.value) in
    let other = subst (λ (n : ℕ). AreEntries n c.entries-2.result.now) (sym c.requires.lengths) c.entries-2.ensures.kept in
    let ends = c.in_err-entries.ensures.ends (length c.args.row.now) c.entries.ensures.kept other in
    let e = err_from_is_err_and c.from_residual.result c.from_residual.ensures.1 in
    let same : first_wide (made_by (to_z w128 (of_z w128 c.quotient-scale.result)) (to_z w128 (of_z w128 c.quotient-share.result)) (row_of (length c.args.row.now) c.entries.result.now) (row_of (length c.args.row.now) c.entries-2.result.now))
    ≡ first_wide (made_in_row c.args.p c.args.f c.args.row.now c.args.other.now) = simp to_z-of_z (same_results c.args.p c.args.f c.gcd-divisor.result c.quotient-scale.result c.quotient-share.result c.args.row.now c.args.other.now c.entries.result.now c.entries-2.result.now divisor first second c.requires.lengths c.entries.ensures.value c.entries-2.ensures.value) in
    rw (e.1, e.2) (stops_alike _ _ c.in_err-entries.field-0.0 same ends)

pub with_entries-requires : goal.with_entries-requires
with_entries-requires c =
    let other = subst (λ (n : ℕ). AreEntries n c.entries-2.result.now) (sym c.requires.lengths) c.entries-2.ensures.kept in
    let kept = c.in_ok-entries.ensures.entries (length c.args.row.now) c.entries.ensures.kept other in
    let items = c.divide.ensures ∙ ap (λ es. map (divided (content_of es)) es) c.deref_mut.ensures.value in
    let size = ap (λ es. length es) items ∙ length-map c.in_ok-entries.entries.items (divided (content_of c.in_ok-entries.entries.items)) in
    let back = written_back c.divide.new.entries c.in_ok-entries.entries.items c.in_ok-entries.entries.len size (search rules) in
    rw (back, items, c.columns.ensures) (are_entries-divided (length c.args.row.now) c.in_ok-entries.entries.items kept)

pub returns-clause-ends : goal.returns-clause-ends
returns-clause-ends c =
    let p = c.ranges.p in
    let f = c.ranges.f in
    let g : FitsSigned w128 c.gcd-divisor.result = record { sfits = c.gcd-divisor.type_inv } in
    let scale : FitsSigned w128 c.quotient-scale.result = record { sfits = c.quotient-scale.type_inv } in
    let share : FitsSigned w128 c.quotient-share.result = record { sfits = c.quotient-share.type_inv } in
    let divisor = simp to_z-of_z at (c.gcd-divisor.ensures.value) in
    let first = simp to_z-of_z at (c.quotient-scale.ensures.value) in
    let second = simp to_z-of_z at (c.quotient-share.ensures.value) in
    let other = subst (λ (n : ℕ). AreEntries n c.entries-2.result.now) (sym c.requires.lengths) c.entries-2.ensures.kept in
    let ends = simp to_z-of_z at (c.in_ok-entries.ensures.ends (length c.args.row.now) c.entries.ensures.kept other) in
    sym (same_results c.args.p c.args.f c.gcd-divisor.result c.quotient-scale.result c.quotient-share.result c.args.row.now c.args.other.now c.entries.result.now c.entries-2.result.now divisor first second c.requires.lengths c.entries.ensures.value c.entries-2.ensures.value) ∙ ends

pub returns-clause-ok : goal.returns-clause-ok
returns-clause-ok c =
    let p = c.ranges.p in
    let f = c.ranges.f in
    let g : FitsSigned w128 c.gcd-divisor.result = record { sfits = c.gcd-divisor.type_inv } in
    let scale : FitsSigned w128 c.quotient-scale.result = record { sfits = c.quotient-scale.type_inv } in
    let share : FitsSigned w128 c.quotient-share.result = record { sfits = c.quotient-share.type_inv } in
    let divisor = simp to_z-of_z at (c.gcd-divisor.ensures.value) in
    let first = simp to_z-of_z at (c.quotient-scale.ensures.value) in
    let second = simp to_z-of_z at (c.quotient-share.ensures.value) in
    let other = subst (λ (n : ℕ). AreEntries n c.entries-2.result.now) (sym c.requires.lengths) c.entries-2.ensures.kept in
    let kept = c.in_ok-entries.ensures.entries (length c.args.row.now) c.entries.ensures.kept other in
    let value = simp to_z-of_z at (c.in_ok-entries.ensures.value (length c.args.row.now) c.entries.ensures.kept other) in
    let items = c.divide.ensures ∙ ap (λ es. map (divided (content_of es)) es) c.deref_mut.ensures.value in
    let size = ap (λ es. length es) items ∙ length-map c.in_ok-entries.entries.items (divided (content_of c.in_ok-entries.entries.items)) in
    let back = written_back c.divide.new.entries c.in_ok-entries.entries.items c.in_ok-entries.entries.len size (search rules) in
    c.with_entries.ensures ∙ rw (back, items, c.columns.ensures) (combined_by c.args.p c.args.f c.gcd-divisor.result c.quotient-scale.result c.quotient-share.result c.args.row.now c.args.other.now c.entries.result.now c.entries-2.result.now divisor first second c.requires.lengths c.entries.ensures.value c.entries-2.ensures.value c.in_ok-entries.entries.items kept value)
