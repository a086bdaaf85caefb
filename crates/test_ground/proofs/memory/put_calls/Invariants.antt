use Rattle.std.proofs.Common.{IsTrue, is_some}
use Rattle.test_ground.proofs.memory.put_calls.Given as goal

abbrev pub invariant-loop-call : goal.invariant-loop-call
invariant-loop-call l =
    (goal.iterator-loop-call).can_next l.call-iterator ×
    (goal.iterator-loop-call).is_finite l.call-iterator ×
    (IsTrue l.started → IsTrue (is_some l.shelf.unread))
