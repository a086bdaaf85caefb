use Rattle.std.proofs.Common.{◌≡◌, drop, length}
use Rattle.par_parts.specs.Numbering.{found_of, all_labelled}
use Rattle.par_parts.proofs.search.Search.label_all.Given as goal

abbrev pub invariant-loop-p : goal.invariant-loop-p
invariant-loop-p l = record {
  rest : all_labelled l.part (drop l.p-index l.list) (found_of l.self) ≡ all_labelled l.part l.list (found_of l.fn.self);
  long : length l.self.labels.items ≡ length l.fn.self.labels.items;
}
