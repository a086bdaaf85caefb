use Rattle.std.proofs.Common.{◌≡◌, ◌++◌, length, map}
use Rattle.std.specs.Vec.Iter.{into_iter_items, into_iter_len}
use Rattle.kernel_solve.specs.KernelParts.{told}
use Rattle.kernel_solve.proofs.kernel_parts.all_told.Given as goal

abbrev pub invariant-loop-part : goal.invariant-loop-part
invariant-loop-part l = record {
  list : l.list ≡ map (told l.kept) l.yielded;
  rest : l.yielded ++ into_iter_items l.part-iterator ≡ l.fn.parts;
  long : into_iter_len l.part-iterator ≡ length (into_iter_items l.part-iterator);
}
