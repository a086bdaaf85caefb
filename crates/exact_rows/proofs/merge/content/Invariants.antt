use Rattle.std.proofs.Common.{◌≡◌, drop, IsTrue}
use Rattle.lk_model.specs.Limits.{is_in_range}
use Rattle.exact_rows.specs.Merged.{content_of}
use Rattle.exact_rows.proofs.merge.content.Given as goal

abbrev pub invariant-loop-i : goal.invariant-loop-i
invariant-loop-i l = record {
  value : l.divisor ≡ content_of (drop l.i l.entries);
  range : IsTrue (is_in_range l.divisor);
}
