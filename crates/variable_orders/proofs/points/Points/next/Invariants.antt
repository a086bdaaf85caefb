use Rattle.std.specs.BinaryHeap.{heap_len}
use Rattle.variable_orders.proofs.points.Points.next.Given as goal

abbrev pub decreases-loop-v : goal.decreases-loop-v
decreases-loop-v l = heap_len l.self.heap
