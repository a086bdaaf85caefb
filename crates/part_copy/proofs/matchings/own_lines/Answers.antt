use Rattle.std.proofs.Common.{◌≡◌, ◌+◌, ◌++◌, ◌∙◌, List, sym, ap, subst, arith, length, map, take, drop, slice_index_or, slice_set}
use Rattle.std.proofs.lemmas.List.{get_or_default}
use Rattle.std.proofs.lemmas.List.Edits.{map_over_more}
use Rattle.lk_model.specs.declared.document.Own.{Own}
use Rattle.part_copy.specs.Renamed.{renamed_own}
use Rattle.part_copy.proofs.matchings.own_lines.Goals as goal

pub loop-line-preserved : goal.loop-line-preserved
loop-line-preserved c =
    let f : Own → Own = renamed_own c.args.part.now c.args.names.now in
    let old = c.args.own in
    let items = c.loop-line.line-items in
    let i = c.loop-line.line-index in
    let none : Own = record { pos = 0; var = 0 } in
    let here : Own = slice_index_or items i none in
    let all : length c.deref_mut-line-items.result.now ≡ length old = ap (λ (xs : List Own). length xs) (c.deref_mut-line-items.ensures.value ∙ c.into_vec-lines.ensures) in
    let kept = c.loop-line.auto.line-items in
    let test = c.loop-line-test.true in
    let again : here ≡ slice_index_or items i here = get_or_default items i none here (omega (arith, test, kept)) in
    subst (λ (x : Own). slice_set items i x ≡ map f (take (i + 1) old) ++ drop (i + 1) old) (sym c.renamed_own.ensures)
    (map_over_more f old items i here (omega (arith, test, all)) c.loop-line.invariant again)
