use Rattle.std.proofs.Common.{◌≡◌, IsTrue}
use Rattle.lk_model.specs.Formulas.Formula.{Cnf, is_formula}
use Rattle.bipartite_match.specs.declared.augmenting.Start.{Start}
use Rattle.bipartite_match.specs.Visiting.{CanSearch, EndsIn}
use Rattle.bipartite_match.proofs.AugmentedPaths.{AugmentState, steps_left}
use Rattle.bipartite_match.proofs.exchange.augment_found.Given as goal

abbrev pub invariant-back : goal.invariant-back
invariant-back l = record {
  exchange : (F : Cnf) (from : Start) → IsTrue (is_formula F) → CanSearch F l.part l.fn.m from → EndsIn F l.part l.fn.m from l.visits.queue.items l.visits.place l.visits.end
      → AugmentState F l.part l.fn.m from l.visits.queue.items l.m l.v l.place l.root;
  unmatched : l.m.unmatched ≡ l.fn.m.unmatched;
  seen : l.m.seen ≡ l.fn.m.seen;
}

abbrev pub decreases-back : goal.decreases-back
decreases-back l = steps_left l.v l.place
