use Rattle.std.proofs.Common.{◌≡◌, ◌++◌, map, take, drop}
use Rattle.lk_model.specs.declared.document.Turn.{Turn}
use Rattle.refutation_log.specs.Numbers.{number_by_table}
use Rattle.refutation_log.proofs.numbers.renumber.Given as goal

abbrev pub invariant-loop-turn : goal.invariant-loop-turn
invariant-loop-turn l =
    l.turns ≡ map (λ (t : Turn). record { lit = t.lit; with = number_by_table l.first l.numbers t.with }) (take l.turn-index l.fn.turns) ++ drop l.turn-index l.fn.turns
