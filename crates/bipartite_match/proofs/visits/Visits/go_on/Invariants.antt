use Rattle.std.proofs.Common.{List, ℕ}
use Rattle.bipartite_match.specs.declared.matching.Matching.{Matching}
use Rattle.bipartite_match.specs.Visiting.{seen_of, CanBegin}
use Rattle.bipartite_match.proofs.Seeking.{IsSeeking}
use Rattle.bipartite_match.proofs.Sought.{AtVisit}
use Rattle.bipartite_match.proofs.visits.Visits.go_on.Given as goal

abbrev pub invariant-places : goal.invariant-places
invariant-places l = (part : List ℕ) (m : Matching) → CanBegin l.f l.of_var l.fn.seen l.fn.self.queue.items l.fn.from part m
    → IsSeeking l.f part m l.fn.from (seen_of l.self l.seen) l.place

abbrev pub invariant-literals : goal.invariant-literals
invariant-literals l = (part : List ℕ) (m : Matching) → CanBegin l.f l.of_var l.fn.seen l.fn.self.queue.items l.fn.from part m
    → AtVisit l.f part m l.fn.from (seen_of l.self l.seen) l.place l.pos l.l-items l.l-index
