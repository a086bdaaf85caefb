use Rattle.std.proofs.Common.{◌≡◌, take}
use Rattle.refutation_log.proofs.turns.lengthened.Given as goal

abbrev pub invariant-loop-turn : goal.invariant-loop-turn
invariant-loop-turn l = l.long.items ≡ take l.turn-index l.turns
