use Rattle.std.proofs.Common.{◌<◌, ℕ, List, length, refl, subst, arith}
use Rattle.std.specs.BinaryHeap.{heap_items}
use Rattle.pure_strip.specs.Counted.{IsLeast}
use Rattle.pure_strip.proofs.Heaps.{top_least}
use Rattle.pure_strip.proofs.least_first.LeastFirst.least.Goals as goal

pub returns-in-Some-clause-some : goal.returns-in-Some-clause-some
returns-in-Some-clause-some c =
    let some : 0 < length (heap_items c.self.inside.heap) = omega (arith, c.self.inside.heap.data.ok.0, c.in-Some.ensures.variant.0 refl) in
    subst (λ (xs : List ℕ). IsLeast xs c.in-Some.top.now.0) c.self.view_is (top_least (λ r. r.0) _ c.in-Some.top.now some c.in-Some.ensures.lookup (c.in-Some.ensures.greatest c.self.invariant))
