use Rattle.std.proofs.Common.{◌≡◌, ◌++◌, length, map}
use Rattle.std.specs.Vec.Iter.{into_iter_items, into_iter_len}
use Rattle.part_copy.specs.Found.{sets_only}
use Rattle.kernel_solve.proofs.model.joined.Given as goal

abbrev pub invariant-loop-set : goal.invariant-loop-set
invariant-loop-set l = record {
  found : l.found ≡ map sets_only l.yielded;
  rest : l.yielded ++ into_iter_items l.set-iterator ≡ l.fn.models;
  long : into_iter_len l.set-iterator ≡ length (into_iter_items l.set-iterator);
}
