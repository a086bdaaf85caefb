use Rattle.std.proofs.Common.{◌≡◌, ◌+◌, ◌++◌, ◌∙◌, List, sym, ap, subst, arith, length, map, take, drop, slice_index_or, slice_set}
use Rattle.std.proofs.lemmas.List.{get_or_default}
use Rattle.std.proofs.lemmas.List.Edits.{map_over_more}
use Rattle.lk_model.specs.declared.document.Turn.{Turn}
use Rattle.result_renaming.specs.Renamed.{new_turn}
use Rattle.result_renaming.proofs.renaming.Renaming.turns.Goals as goal

pub loop-turn-preserved : goal.loop-turn-preserved
loop-turn-preserved c =
    let f : Turn → Turn = new_turn c.args.self.now in
    let old = c.args.turns in
    let items = c.loop-turn.turn-items in
    let i = c.loop-turn.turn-index in
    let here : Turn = slice_index_or items i c.turn-item.result in
    let all : length c.deref_mut-turn-items.result.now ≡ length old = ap (λ (ts : List Turn). length ts) (c.deref_mut-turn-items.ensures.value ∙ c.into_vec-turns.ensures) in
    let kept = c.loop-turn.auto.turn-items in
    let test = c.loop-turn-test.true in
    let again : here ≡ slice_index_or items i here = get_or_default items i c.turn-item.result here (omega (arith, test, kept)) in
    subst (λ l. slice_set items i (record { lit = l; with = c.in_ok-turn.field-0 }) ≡ map f (take (i + 1) old) ++ drop (i + 1) old) (sym c.literal-turn.ensures)
    (subst (λ k. slice_set items i (record { lit = (f here).lit; with = k }) ≡ map f (take (i + 1) old) ++ drop (i + 1) old) (sym c.in_ok-turn.ensures)
    (map_over_more f old items i here (omega (arith, test, all)) c.loop-turn.invariant again))
