use Rattle.std.proofs.Common.{◌≡◌, List, ℕ, IsTrue}
use Rattle.lk_model.specs.Formulas.Formula.{Cnf, is_formula}
use Rattle.bipartite_match.specs.declared.augmenting.Start.{Start}
use Rattle.bipartite_match.specs.declared.matching.Matching.{Matching}
use Rattle.bipartite_match.specs.Visiting.{CanSearch, EndsIn}
use Rattle.bipartite_match.proofs.AugmentedPaths.{steps_left}
use Rattle.bipartite_match.proofs.Passing.{PassState}
use Rattle.bipartite_match.proofs.exchange.exchange.Given as goal

abbrev pub invariant-back : goal.invariant-back
invariant-back l = (F : Cnf) (part : List ℕ) (m : Matching) (from : Start) → m.of_var ≡ l.fn.of_var → IsTrue (is_formula F) → CanSearch F part m from
    → EndsIn F part m from l.visits.queue.items l.visits.place l.visits.end → PassState F part m from l.visits.queue.items l.of_var l.v l.place l.root

abbrev pub decreases-back : goal.decreases-back
decreases-back l = steps_left l.v l.place
