use Rattle.std.proofs.Common.{take}
use Rattle.check_pure_matching.specs.Pairs.{AreNamed}
use Rattle.check_pure_matching.proofs.pairs.named_positions.Given as goal

-- the positions that the pairs so far name
abbrev pub invariant-loop-pair : goal.invariant-loop-pair
invariant-loop-pair l = AreNamed l.n (take l.pair-index l.pairs) l.named
