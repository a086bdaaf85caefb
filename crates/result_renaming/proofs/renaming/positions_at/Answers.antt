use Rattle.std.proofs.Common.{◌≡◌, ◌+◌, ◌++◌, ◌∙◌, List, ℕ, sym, ap, subst, arith, length, map, take, drop, slice_index_or, slice_set}
use Rattle.std.proofs.lemmas.List.{get_or_default}
use Rattle.std.proofs.lemmas.List.Edits.{map_over_more}
use Rattle.renaming_laws.specs.Renaming.{nth}
use Rattle.result_renaming.proofs.renaming.positions_at.Goals as goal

pub loop-place-preserved : goal.loop-place-preserved
loop-place-preserved c =
    let f : ℕ → ℕ = nth c.args.part.now in
    let old = c.args.places in
    let items = c.loop-place.place-items in
    let i = c.loop-place.place-index in
    let here : ℕ = slice_index_or items i 0 in
    let all : length c.deref_mut-place-items.result.now ≡ length old = ap (λ (ps : List ℕ). length ps) (c.deref_mut-place-items.ensures.value ∙ c.into_vec-places.ensures) in
    let kept = c.loop-place.auto.place-items in
    let test = c.loop-place-test.true in
    let again : here ≡ slice_index_or items i here = get_or_default items i 0 here (omega (arith, test, kept)) in
    subst (λ (p : ℕ). slice_set items i p ≡ map f (take (i + 1) old) ++ drop (i + 1) old) (sym (c.nth.ensures ∙ ap f c.from.ensures))
    (map_over_more f old items i here (omega (arith, test, all)) c.loop-place.invariant again)
