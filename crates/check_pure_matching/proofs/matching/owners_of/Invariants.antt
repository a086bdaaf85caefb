use Rattle.std.proofs.Common.{drop}
use Rattle.check_pure_matching.specs.Matching.{AreOwners, AreFirstOwners}
use Rattle.check_pure_matching.proofs.matching.owners_of.Given as goal

-- the tables of the lines so far, which stand last
abbrev pub invariant-loop-i : goal.invariant-loop-i
invariant-loop-i l = record {
  of_position : AreOwners l.m (drop l.i l.own) l.of_position.items;
  first : AreFirstOwners l.n l.m (drop l.i l.own) l.first.items;
}
