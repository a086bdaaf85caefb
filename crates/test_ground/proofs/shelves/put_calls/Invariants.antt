use Rattle.std.proofs.Common.{IsTrue}
use Rattle.test_ground.proofs.shelves.put_calls.Given as goal

abbrev pub invariant-loop-call : goal.invariant-loop-call
invariant-loop-call g l =
    (goal.iterator-loop-call g).can_next l.call-iterator ×
    (goal.iterator-loop-call g).is_finite l.call-iterator ×
    (IsTrue l.started → IsTrue (g.S.Shelf.started l.shelf))
