use Rattle.std.proofs.Common.{◌∷◌, ℕ, List, map, subst, IsPermutation}
use Rattle.std.specs.BinaryHeap.{heap_items}
use Rattle.std.proofs.lemmas.List.Sorted.{IsPermutation-map}
use Rattle.pure_strip.proofs.least_first.LeastFirst.push.Goals as goal

pub returns-clause-ok : goal.returns-clause-ok
returns-clause-ok c =
    subst (λ (xs : List ℕ). IsPermutation (c.args.x ∷ xs) (map (λ r. r.0) (heap_items c.push.new.self))) c.self.view_is (IsPermutation-map (λ r. r.0) _ _ c.in_ok-push.ensures.permutation)
