use Rattle.std.proofs.Common.{◌≡◌, ◌++◌, map, take, drop}
use Rattle.result_renaming.specs.Renamed.{new_turn}
use Rattle.result_renaming.proofs.renaming.Renaming.turns.Given as goal

abbrev pub invariant-loop-turn : goal.invariant-loop-turn
invariant-loop-turn l =
    l.turn-items ≡ map (new_turn l.self) (take l.turn-index l.fn.turns) ++ drop l.turn-index l.fn.turns
