use Rattle.std.proofs.Common.{◌≡◌, ◌-◌, false, filter, slice_index_or}
use Rattle.std.specs.List.{range_with_len}
use Rattle.refutation_log.proofs.axioms.marked_places.Given as goal

abbrev pub invariant-loop-p : goal.invariant-loop-p
invariant-loop-p l = l.positions ≡ filter (λ q. slice_index_or l.marks q false) (range_with_len 1 (l.p - 1))
