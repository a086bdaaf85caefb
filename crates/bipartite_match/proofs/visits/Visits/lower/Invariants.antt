use Rattle.std.proofs.Common.{length}
use Rattle.bipartite_match.proofs.Marks.{IsLowered}
use Rattle.bipartite_match.proofs.visits.Visits.lower.Given as goal

abbrev pub invariant-loop-visit : goal.invariant-loop-visit
invariant-loop-visit l = IsLowered l.self.queue.items (length l.fn.seen) l.seen l.visit-index
