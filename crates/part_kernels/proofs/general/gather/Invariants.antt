use Rattle.std.proofs.Common.{◌≡◌, ◌++◌, length}
use Rattle.std.specs.Vec.Iter.{into_iter_items, into_iter_len}
use Rattle.part_kernels.specs.ByParts.{done}
use Rattle.part_kernels.proofs.general.gather.Given as goal

abbrev pub invariant-loop-answer : goal.invariant-loop-answer
invariant-loop-answer l = record {
  found : l.yielded ≡ done l.found;
  rest : l.yielded ++ into_iter_items l.answer-iterator ≡ l.fn.answers;
  long : into_iter_len l.answer-iterator ≡ length (into_iter_items l.answer-iterator);
}
