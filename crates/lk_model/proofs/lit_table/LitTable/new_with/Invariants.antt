use Rattle.std.proofs.Common.{◌≡◌, length, All}
use Rattle.lk_model.proofs.lit_table.LitTable.new_with.Given as goal

-- the entries so far
abbrev pub invariant-loop : goal.invariant-loop
invariant-loop g l = record {
  size : length l.entries.items ≡ l.counter;
  made : All (goal.F-post g l.make) l.entries.items;
}
