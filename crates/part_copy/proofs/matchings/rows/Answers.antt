use Rattle.std.proofs.Common.{◌≡◌, ◌+◌, ◌++◌, ◌∙◌, List, sym, ap, subst, arith, length, map, take, drop, slice_index_or, slice_set}
use Rattle.std.proofs.lemmas.List.{get_or_default}
use Rattle.std.proofs.lemmas.List.Edits.{map_over_more}
use Rattle.lk_model.specs.declared.document.MatchRow.{MatchRow}
use Rattle.part_copy.specs.Renamed.{renamed_row}
use Rattle.part_copy.proofs.matchings.rows.Goals as goal

pub loop-row-preserved : goal.loop-row-preserved
loop-row-preserved c =
    let f : MatchRow → MatchRow = renamed_row c.args.part.now c.args.names.now in
    let old = c.args.rows in
    let items = c.loop-row.row-items in
    let i = c.loop-row.row-index in
    let none : MatchRow = record { var = 0; own = 0; escape = 0; rank = 0 } in
    let here : MatchRow = slice_index_or items i none in
    let all : length c.deref_mut-row-items.result.now ≡ length old = ap (λ (xs : List MatchRow). length xs) (c.deref_mut-row-items.ensures.value ∙ c.into_vec-rows.ensures) in
    let kept = c.loop-row.auto.row-items in
    let test = c.loop-row-test.true in
    let again : here ≡ slice_index_or items i here = get_or_default items i none here (omega (arith, test, kept)) in
    subst (λ (x : MatchRow). slice_set items i x ≡ map f (take (i + 1) old) ++ drop (i + 1) old) (sym c.renamed_row.ensures)
    (map_over_more f old items i here (omega (arith, test, all)) c.loop-row.invariant again)
