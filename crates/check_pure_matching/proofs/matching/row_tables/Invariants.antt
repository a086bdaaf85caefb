use Rattle.std.proofs.Common.{drop}
use Rattle.check_pure_matching.specs.Matching.{AreRows, AreFirstRows, AreRankBounds}
use Rattle.check_pure_matching.proofs.matching.row_tables.Given as goal

-- the tables of the rows so far, which stand last
abbrev pub invariant-loop-i : goal.invariant-loop-i
invariant-loop-i l = record {
  of_variable : AreRows l.n (drop l.i l.lines) l.of_variable.items;
  first : AreFirstRows l.m l.n (drop l.i l.lines) l.first.items;
  rank_bound : AreRankBounds l.m (drop l.i l.lines) l.rank_bound.items;
}
