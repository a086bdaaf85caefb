use Rattle.std.proofs.Common.{◌≡◌, take}
use Rattle.refutation_log.proofs.turns.shortened.Given as goal

abbrev pub invariant-loop-turn : goal.invariant-loop-turn
invariant-loop-turn l = l.short.items ≡ take l.turn-index l.turns
