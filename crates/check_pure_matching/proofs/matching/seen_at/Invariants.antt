use Rattle.std.proofs.Common.{take}
use Rattle.check_tables.specs.Occurring.{AreOccurring}
use Rattle.check_pure_matching.specs.Matching.{AreNamedThere, has_own, has_escape}
use Rattle.check_pure_matching.proofs.matching.seen_at.Given as goal

-- what the clauses so far hold
abbrev pub invariant-loop-p : goal.invariant-loop-p
invariant-loop-p l = record {
  occurring : AreOccurring l.f (take l.p-index l.kept) l.seen.occurring;
  own : AreNamedThere l.f (take l.p-index l.kept) l.rows has_own l.seen.own;
  escape : AreNamedThere l.f (take l.p-index l.kept) l.rows has_escape l.seen.escape;
}
