use Rattle.std.proofs.Common.{◌≡◌, ◌+◌, ◌≤◌, length}
use Rattle.std.specs.Vec.Iter.{into_iter_items}
use Rattle.lk_model.specs.Documents.Documents.{steps_of}
use Rattle.general_kernel.specs.TrimmedRounds.{AreRefuting, rounds_of, trimmed_rounds}
use Rattle.general_kernel.proofs.rounds.trim_all.Given as goal

-- the needed steps of the refutations so far, and the refutations that are left
abbrev pub invariant-loop-log : goal.invariant-loop-log
invariant-loop-log l = record {
  trimmed : l.trimmed ≡ trimmed_rounds l.low l.yielded;
  next : l.next ≡ l.low + length (steps_of l.trimmed);
  above : l.low ≤ l.next;
  order : l.next ≤ l.low + length (steps_of (rounds_of l.yielded));
  left : AreRefuting l.low (l.low + length (steps_of (rounds_of l.yielded))) (into_iter_items l.log-iterator);
}
