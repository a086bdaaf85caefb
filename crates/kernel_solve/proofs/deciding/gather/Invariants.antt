use Rattle.std.proofs.Common.{◌≡◌, ◌++◌, length}
use Rattle.std.specs.Vec.Iter.{into_iter_items, into_iter_len}
use Rattle.kernel_solve.specs.Answers.{IsGatheredSoFar}
use Rattle.kernel_solve.proofs.deciding.gather.Given as goal

abbrev pub invariant-loop-answer : goal.invariant-loop-answer
invariant-loop-answer l = record {
  so_far : IsGatheredSoFar l.yielded l.models l.stopped;
  rest : l.yielded ++ into_iter_items l.answer-iterator ≡ l.fn.answers;
  long : into_iter_len l.answer-iterator ≡ length (into_iter_items l.answer-iterator);
}
