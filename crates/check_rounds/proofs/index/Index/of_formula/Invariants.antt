use Rattle.std.proofs.Common.{◌≡◌, ◌<◌, ◌+◌, ◌*◌, length}
use Rattle.check_rounds.specs.Index.{AreClausesListed, AreLast}
use Rattle.check_rounds.proofs.index.Index.of_formula.Given as goal

-- the clauses so far are found, and the table's positions are listed
abbrev pub invariant-loop-i : goal.invariant-loop-i
invariant-loop-i l = record {
  size : length l.index ≡ 2 * l.f.vars + 2;
  places : 0 < length l.last.items;
  last : AreLast l.blocks l.index l.f l.last.items;
  found : AreClausesListed l.blocks l.index l.f l.i;
}
