use Rattle.std.proofs.Common.{◌∷◌, ℕ, List, map, subst, sym, IsPermutation}
use Rattle.std.specs.BinaryHeap.{heap_items}
use Rattle.pure_strip.specs.Counted.{IsLeast}
use Rattle.pure_strip.proofs.Heaps.{least_dropped}
use Rattle.pure_strip.proofs.least_first.LeastFirst.drop_least.Goals as goal

pub returns : goal.returns
returns c = λ x least.
    subst (λ (xs : List ℕ). IsPermutation xs (x ∷ map (λ r. r.0) (heap_items c.pop.new.self))) c.self.view_is
    (least_dropped (λ r. r.0) _ _ _ _ _ c.pop.result x c.self.invariant c.self.inside.heap.data.ok.0 c.pop.ensures.none c.pop.ensures.top c.pop.ensures.permutation c.pop.ensures.heap_order
    (subst (λ (xs : List ℕ). IsLeast xs x) (sym c.self.view_is) least))
