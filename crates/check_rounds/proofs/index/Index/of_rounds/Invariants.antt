use Rattle.std.proofs.Common.{◌≡◌, ◌+◌, ◌*◌, length, take}
use Rattle.check_rounds.specs.Index.{AreRoundsListed}
use Rattle.check_rounds.proofs.index.Index.of_rounds.Given as goal

-- the rounds so far are found
abbrev pub invariant-loop-k : goal.invariant-loop-k
invariant-loop-k l = record {
  size : length l.index ≡ 2 * l.f.vars + 2;
  found : AreRoundsListed l.blocks l.index (take l.k l.rounds);
}
