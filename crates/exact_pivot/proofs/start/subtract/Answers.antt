use Rattle.std.proofs.Common.{◌≤◌, ◌<◌, ◌^◌, ◌-◌, pos, get_or, unsigned_abs, refl, sym, subst, arith, rules}
use Rattle.std.specs.Int.RustNames.{FitsSigned}
use mir.Syntax.{w128}
use Rattle.std.proofs.lemmas.Int.{to_z-of_z}
use Rattle.exact_rows.specs.declared.sparse.Entry.{Entry}
use Rattle.exact_pivot.proofs.Pushes.{small_entry}
use Rattle.exact_pivot.proofs.Costs.{entry_of_row, value_of_row, subtract_begun, subtract_reads, subtract_step, subtract_ended}
use Rattle.exact_pivot.proofs.start.subtract.Goals as goal

abbrev none : Entry
none = record { column = 0; value = pos 0 }

pub loop-e-init : goal.loop-e-init
loop-e-init c = subtract_begun c.args.sums.now c.args.row.now c.entries-entries.result.now c.entries-entries.ensures.value c.entries-entries.ensures.kept c.requires.width

pub subtract_at-requires-clause-first : goal.subtract_at-requires-clause-first
subtract_at-requires-clause-first c =
    (entry_of_row c.args.sums.now c.args.row.now c.entries-entries.result.now c.entries-entries.ensures.value c.entries-entries.ensures.kept c.requires.width c.loop-e.e-index none (omega arith)).above

pub subtract_at-requires-clause-last : goal.subtract_at-requires-clause-last
subtract_at-requires-clause-last c =
    let p = entry_of_row c.args.sums.now c.args.row.now c.entries-entries.result.now c.entries-entries.ensures.value c.entries-entries.ensures.kept c.requires.width c.loop-e.e-index none (omega arith) in
    omega (arith, p.most, c.loop-e.auto.sums)

pub subtract_at-requires-clause-far : goal.subtract_at-requires-clause-far
subtract_at-requires-clause-far c =
    let es = c.entries-entries.result.now in
    let here : Entry = get_or es c.loop-e.e-index none in
    let p = entry_of_row c.args.sums.now c.args.row.now es c.entries-entries.ensures.value c.entries-entries.ensures.kept c.requires.width c.loop-e.e-index none (omega arith) in
    let read = subtract_reads c.args.sums.now c.args.row.now es c.entries-entries.ensures.value c.entries-entries.ensures.kept c.requires.width c.loop-e.sums c.loop-e.e-index none (omega arith) c.loop-e.invariant in
    subst (λ z. unsigned_abs z < 2 ^ 99) (sym read) (c.requires.far (here.column - 1) (pos 0) (omega (arith, p.above, p.most)))

pub subtract_at-requires-clause-x : goal.subtract_at-requires-clause-x
subtract_at-requires-clause-x c =
    let es = c.entries-entries.result.now in
    let here : Entry = get_or es c.loop-e.e-index none in
    let x : FitsSigned w128 here.value = search rules in
    let same = value_of_row c.args.sums.now c.args.row.now es c.entries-entries.ensures.value c.entries-entries.ensures.kept c.requires.width c.loop-e.e-index none (omega arith) in
    let small : unsigned_abs here.value ≤ 4000000 = subst (λ z. unsigned_abs z ≤ 4000000) (sym same) (small_entry c.args.row.now here.column c.requires.small) in
    simp to_z-of_z (omega (arith, small))

pub loop-e-preserved : goal.loop-e-preserved
loop-e-preserved c =
    let es = c.entries-entries.result.now in
    let here : Entry = get_or es c.loop-e.e-index none in
    let x : FitsSigned w128 here.value = search rules in
    let now = simp to_z-of_z at (c.subtract_at.ensures) in
    rw now (subtract_step c.args.sums.now c.args.row.now es c.entries-entries.ensures.value c.entries-entries.ensures.kept c.requires.width c.loop-e.sums c.loop-e.e-index none _ (omega arith) c.loop-e.invariant refl)

pub returns : goal.returns
returns c =
    subtract_ended c.args.sums.now c.args.row.now c.entries-entries.result.now c.entries-entries.ensures.value c.entries-entries.ensures.kept c.requires.width c.loop-e.sums c.loop-e.e-index (omega arith) c.loop-e.invariant
