use Rattle.std.proofs.Common.{take}
use Rattle.check_tables.specs.Occurring.{AreOccurring}
use Rattle.check_pure_matching.specs.Pairs.{AreShown}
use Rattle.check_pure_matching.proofs.pairs.seen_at.Given as goal

-- what the clauses so far hold
abbrev pub invariant-loop-p : goal.invariant-loop-p
invariant-loop-p l = record {
  occurring : AreOccurring l.f (take l.p-index l.kept) l.seen.occurring;
  shown : AreShown l.f (take l.p-index l.kept) l.named l.seen.shown;
}
