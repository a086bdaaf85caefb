use Rattle.std.proofs.Common.{◌≡◌, ◌++◌, length, map, Ok}
use Rattle.std.specs.Vec.Iter.{into_iter_items, into_iter_len}
use Rattle.par_halves.proofs.gathering.all_ok.Given as goal

abbrev pub invariant-loop-answer : goal.invariant-loop-answer
invariant-loop-answer g l = record {
  found : l.yielded ≡ map Ok l.found;
  rest : l.yielded ++ into_iter_items l.answer-iterator ≡ l.fn.answers;
  long : into_iter_len l.answer-iterator ≡ length (into_iter_items l.answer-iterator);
}
