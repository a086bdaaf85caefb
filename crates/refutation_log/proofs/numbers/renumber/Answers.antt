use Rattle.std.proofs.Common.{◌≡◌, ◌+◌, ◌<◌, ◌++◌, ◌∙◌, sym, ap, subst, arith, length, map, take, drop, List, slice_index_or, slice_set}
use Rattle.std.proofs.lemmas.List.{get_or_default}
use Rattle.std.proofs.lemmas.List.Edits.{map_over_more}
use Rattle.lk_model.specs.declared.document.Turn.{Turn}
use Rattle.refutation_log.specs.Numbers.{number_by_table}
use Rattle.refutation_log.proofs.Marking.{turn_below}
use Rattle.refutation_log.proofs.Renumbering.{mapped_get}
use Rattle.refutation_log.proofs.numbers.renumber.Goals as goal

pub new_number-turn-requires : goal.new_number-turn-requires
new_number-turn-requires c =
    let f : Turn → Turn = λ t. record { lit = t.lit; with = number_by_table c.args.first c.args.numbers.now t.with } in
    let turns = c.args.turns.now in
    let i = c.loop-turn.turn-index in
    let d = c.turn-item.result in
    let within : i < length turns = omega arith in
    let here : slice_index_or c.loop-turn.turns i d ≡ slice_index_or turns i d =
    ap (λ (ts : List Turn). slice_index_or ts i d) c.loop-turn.invariant ∙ mapped_get f turns i d within in
    let e = turn_below (c.args.first + length c.args.numbers.now) turns i (slice_index_or turns i d) c.requires within (get_or_default turns i d (slice_index_or turns i d) within) in
    subst (λ (t : Turn). t.with < c.args.first + length c.args.numbers.now) (sym here) e

pub loop-turn-preserved : goal.loop-turn-preserved
loop-turn-preserved c =
    let f : Turn → Turn = λ t. record { lit = t.lit; with = number_by_table c.args.first c.args.numbers.now t.with } in
    let turns = c.args.turns.now in
    let i = c.loop-turn.turn-index in
    let here = slice_index_or c.loop-turn.turns i c.turn-item.result in
    let again : here ≡ slice_index_or c.loop-turn.turns i here = get_or_default c.loop-turn.turns i c.turn-item.result here (omega arith) in
    subst (λ k. slice_set c.loop-turn.turns i (record { lit = here.lit; with = k }) ≡ map f (take (i + 1) turns) ++ drop (i + 1) turns) (sym c.new_number-turn.ensures)
    (map_over_more f turns c.loop-turn.turns i here (omega arith) c.loop-turn.invariant again)
