use Rattle.std.proofs.Common.{drop}
use Rattle.check_rounds.specs.Blocking.{AreBlocks, AreSeen}
use Rattle.check_rounds.proofs.blocking.blocks_of.Given as goal

-- the table of the rounds so far, which stand last, and the last round of each position
abbrev pub invariant-loop-k : goal.invariant-loop-k
invariant-loop-k l = record {
  blocks : AreBlocks l.f l.k (drop l.k l.rounds) l.table.items;
  seen : AreSeen l.f l.k l.seen.items l.table.items;
}
