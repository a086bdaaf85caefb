use Rattle.std.proofs.Common.{◌≡◌}
use Rattle.par_parts.specs.Numbering.{found_of, IsSearching, Keeps}
use Rattle.par_parts.proofs.Labelling.{weight}
use Rattle.par_parts.proofs.search.Search.spread.Given as goal

abbrev pub invariant-waiting : goal.invariant-waiting
invariant-waiting l = record {
  searching : IsSearching l.f (found_of l.self) l.self.pending.items;
  roots : l.self.roots.items ≡ l.fn.self.roots.items;
  keeps : Keeps (found_of l.fn.self) (found_of l.self);
}

abbrev pub decreases-waiting : goal.decreases-waiting
decreases-waiting l = weight (found_of l.self)
