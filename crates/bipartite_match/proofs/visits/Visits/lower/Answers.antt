use Rattle.std.proofs.Common.{◌≤◌, List, length, ap, arith}
use Rattle.bipartite_match.specs.declared.visits.Visit.{Visit}
use Rattle.bipartite_match.proofs.Marks.{all_lowered}
use Rattle.bipartite_match.proofs.visits.Visits.lower.Goals as goal

pub returns : goal.returns
returns c =
    let q = c.args.self.now.queue.items in
    let past : length q ≤ c.loop-visit.visit-index = let t = c.loop-visit-test.false in let e = ap (λ (xs : List Visit). length xs) c.deref-visit-items.ensures.value in omega (arith, t, e) in
    all_lowered q (length c.args.seen.now) c.loop-visit.seen c.loop-visit.visit-index c.loop-visit.invariant past
