use Rattle.std.proofs.Common.{◌≡◌, ℤ, drop, length, IsTrue}
use Rattle.lk_model.specs.Formulas.Literal.{contains}
use Rattle.watch_prop.specs.Watchers.{count_of, with_counted}
use Rattle.watch_prop.proofs.watcher_lists.count_literals.Given as goal

abbrev pub invariant-loop-l : goal.invariant-loop-l
invariant-loop-l l = record {
  rest : with_counted l.counts (drop l.l-index l.lits) ≡ with_counted l.fn.counts l.lits;
  long : length l.counts ≡ length l.fn.counts;
  later : (k : ℤ) → IsTrue (contains (drop l.l-index l.lits) k) → count_of l.counts k ≡ count_of l.fn.counts k;
}
