use Rattle.std.proofs.Common.{take, length}
use Rattle.pure_strip.specs.Live.{AreCounted, GoDown}
use Rattle.pure_strip.proofs.run.touch_all.Given as goal

-- the flags of the positions so far are down
abbrev pub invariant-loop-p : goal.invariant-loop-p
invariant-loop-p l = record {
  down : GoDown (take l.p-index l.positions) (length l.f.clauses) l.fn.live.items l.live.items;
  counted : AreCounted l.f l.live.items l.counts;
}
