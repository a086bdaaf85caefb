use Rattle.std.proofs.Common.{rules, ◌<◌, length}
use Rattle.std.specs.BinaryHeap.{heap_items}
use Rattle.unit_refutations.proofs.Heaps.{greatest}
use Rattle.unit_refutations.proofs.pending.Pending.top.Goals as goal

pub returns-in-Some-clause-some : goal.returns-in-Some-clause-some
returns-in-Some-clause-some c =
    let some : 0 < length (heap_items c.self.inside.places) = search rules in
    greatest (heap_items c.self.inside.places) c.args.self.now c.in-Some.top.now c.self.view_is some c.in-Some.ensures.lookup (c.in-Some.ensures.greatest c.self.invariant)
