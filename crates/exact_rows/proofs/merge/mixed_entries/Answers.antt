use Rattle.std.proofs.Common.{ℕ, ◌+◌, of_z, to_z, sym, ap, ◌∙◌}
use Rattle.std.specs.Int.RustNames.{FitsSigned}
use mir.Syntax.{w128}
use Rattle.std.proofs.lemmas.Int.{to_z-of_z}
use Rattle.std.proofs.lemmas.Result.{err_from_is_err_and}
use Rattle.exact_rows.specs.Sparse.{AreEntries}
use Rattle.exact_rows.proofs.Entries.{nonzero_is}
use Rattle.exact_rows.proofs.Wides.{fits_in_range}
use Rattle.exact_rows.proofs.Merging.{fewer_left, place, stopped_at, zero_at, pushed_at, IsMixed, ended}
use Rattle.exact_rows.proofs.merge.mixed_entries.Goals.{then-value-ne0+in_ok-push, else-value-ne0}
use Rattle.exact_rows.proofs.merge.mixed_entries.Goals as goal

at_end : (c : goal.In_default) (n : ℕ) → AreEntries n c.args.row.now → AreEntries n c.args.other.now
    → IsMixed n c.args.scale c.args.share c.args.row.now c.args.other.now c.loop-column.mixed.items
at_end c n h k =
    let scale = c.ranges.scale in
    let share = c.ranges.share in
    let before = c.loop-column.invariant n h k in
    let m = simp to_z-of_z at (before.1) in
    ended n before.0 c.args.scale c.args.share c.args.row.now c.args.other.now c.loop-column.left.now c.loop-column.right.now c.loop-column.mixed.items (sym c.next_column.ensures ∙ c.in_default.is) m

pub returns-in_err-value-clause-ends : goal.returns-in_err-value-clause-ends
returns-in_err-value-clause-ends c n h k =
    let scale = c.ranges.scale in
    let share = c.ranges.share in
    let x : FitsSigned w128 c.first_number-x.result = record { sfits = c.first_number-x.type_inv } in
    let y : FitsSigned w128 c.first_number-y.result = record { sfits = c.first_number-y.type_inv } in
    let before = c.loop-column.invariant n h k in
    let m = simp to_z-of_z at (before.1) in
    let wide = rw (c.first_number-x.ensures, c.first_number-y.ensures) at (simp to_z-of_z at (c.in_err-value.ensures.wide)) in
    let p = err_from_is_err_and c.from_residual-in_err-value.result c.from_residual-in_err-value.ensures.1 in
    rw (p.1, p.2) (stopped_at n before.0 c.in-Some.column c.args.scale c.args.share c.args.row.now c.args.other.now c.loop-column.left.now c.loop-column.right.now c.loop-column.mixed.items m (sym c.next_column.ensures ∙ c.in-Some.is) _ wide)

pub loop-column-preserved : goal.loop-column-preserved
loop-column-preserved c n h k =
    let scale = c.ranges.scale in
    let share = c.ranges.share in
    let x : FitsSigned w128 c.first_number-x.result = record { sfits = c.first_number-x.type_inv } in
    let y : FitsSigned w128 c.first_number-y.result = record { sfits = c.first_number-y.type_inv } in
    let before = c.loop-column.invariant n h k in
    let m = simp to_z-of_z at (before.1) in
    let wide = rw (c.first_number-x.ensures, c.first_number-y.ensures) at (simp to_z-of_z at (c.in_ok-value.ensures.wide)) in
    let value = rw (c.first_number-x.ensures, c.first_number-y.ensures) at (simp to_z-of_z at (c.in_ok-value.ensures.value)) in
    let range = c.in_ok-value.ensures.range in
    let next = sym c.next_column.ensures ∙ c.in-Some.is in
    rw (c.past.ensures, c.past-in-Some.ensures) (simp to_z-of_z (elim c.if-value-ne0.branch [
      | then-value-ne0+in_ok-push w ↦ (
          let z : FitsSigned w128 c.in_ok-value.value = fits_in_range c.in_ok-value.value range in
          let items = ap (λ v. v.items) w.mixed-is ∙ simp to_z-of_z at (w.in_ok-push.ensures.items) in
          let nonzero = nonzero_is c.in_ok-value.value (λ e. w.if-value-ne0.true (ap (λ y. of_z w128 y) e)) in (
            (place n before.0 c.in-Some.column c.args.scale c.args.share c.args.row.now c.args.other.now c.loop-column.left.now c.loop-column.right.now c.loop-column.mixed.items m next).before + 1,
            rw items (pushed_at n before.0 c.in-Some.column c.args.scale c.args.share c.args.row.now c.args.other.now c.loop-column.left.now c.loop-column.right.now c.loop-column.mixed.items m next c.in_ok-value.value wide value nonzero range),
          ))
      | else-value-ne0 w ↦ (
          let z : FitsSigned w128 c.in_ok-value.value = fits_in_range c.in_ok-value.value range in
          let items = ap (λ v. v.items) w.mixed-is in
          let is_zero = sym (to_z-of_z w128 c.in_ok-value.value z) ∙ ap (λ y. to_z w128 y) w.if-value-ne0.false in (
            (place n before.0 c.in-Some.column c.args.scale c.args.share c.args.row.now c.args.other.now c.loop-column.left.now c.loop-column.right.now c.loop-column.mixed.items m next).before + 1,
            rw items (zero_at n before.0 c.in-Some.column c.args.scale c.args.share c.args.row.now c.args.other.now c.loop-column.left.now c.loop-column.right.now c.loop-column.mixed.items m next c.in_ok-value.value wide value is_zero),
          ))
    ]))

pub loop-column-smaller : goal.loop-column-smaller
loop-column-smaller c = rw (c.past.ensures, c.past-in-Some.ensures) (fewer_left c.loop-column.left.now c.loop-column.right.now c.in-Some.column (sym c.next_column.ensures ∙ c.in-Some.is))

pub returns-clause-ends : goal.returns-clause-ends
returns-clause-ends c n h k = (at_end c n h k).none

pub returns-clause-entries : goal.returns-clause-entries
returns-clause-entries c n h k = (at_end c n h k).entries

pub returns-clause-value : goal.returns-clause-value
returns-clause-value c n h k = (at_end c n h k).value
