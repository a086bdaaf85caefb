use Rattle.std.proofs.Common.{◌≡◌, ◌+◌, ◌++◌, ◌∙◌, List, ℤ, sym, ap, subst, arith, length, map, take, drop, slice_index_or, slice_set}
use Rattle.std.proofs.lemmas.List.{get_or_default}
use Rattle.std.proofs.lemmas.List.Edits.{map_over_more}
use Rattle.renaming_laws.specs.Renaming.{named}
use Rattle.result_renaming.proofs.renaming.Renaming.literals.Goals as goal

pub loop-l-preserved : goal.loop-l-preserved
loop-l-preserved c =
    let f : ℤ → ℤ = named c.args.self.now.names.now in
    let old = c.args.literals in
    let items = c.loop-l.l-items in
    let i = c.loop-l.l-index in
    let here : ℤ = slice_index_or items i c.l-item.result in
    let all : length c.deref_mut-l-items.result.now ≡ length old = ap (λ (ls : List ℤ). length ls) (c.deref_mut-l-items.ensures.value ∙ c.into_vec-literals.ensures) in
    let kept = c.loop-l.auto.l-items in
    let test = c.loop-l-test.true in
    let again : here ≡ slice_index_or items i here = get_or_default items i c.l-item.result here (omega (arith, test, kept)) in
    subst (λ (l : ℤ). slice_set items i l ≡ map f (take (i + 1) old) ++ drop (i + 1) old) (sym c.literal.ensures)
    (map_over_more f old items i here (omega (arith, test, all)) c.loop-l.invariant again)
