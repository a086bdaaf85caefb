use Rattle.std.proofs.Common.{length}
use Rattle.occurrence_lists.specs.Noting.{AreCounts, AreNoted}
use Rattle.occurrence_lists.proofs.lists.OccurrenceLists.new.Given as goal

-- the positions of the clauses so far are noted
abbrev pub invariant-loop-i : goal.invariant-loop-i
invariant-loop-i l = record {
  noted : AreNoted l.f l.i l.lists.lists;
  counts : AreCounts l.f (length l.f.clauses) l.lists.sizes;
}
