use Rattle.std.proofs.Common.{◌≡◌, drop, length}
use Rattle.par_parts.specs.Numbering.{found_of, clause_passed}
use Rattle.par_parts.proofs.search.Search.pass_clause.Given as goal

abbrev pub invariant-loop-l : goal.invariant-loop-l
invariant-loop-l l = record {
  rest : clause_passed l.part l.lists (drop l.l-index l.lits) (found_of l.self) ≡ clause_passed l.part l.lists l.lits (found_of l.fn.self);
  labels : length l.self.labels.items ≡ length l.fn.self.labels.items;
  owners : length l.self.owners.items ≡ length l.fn.self.owners.items;
}
