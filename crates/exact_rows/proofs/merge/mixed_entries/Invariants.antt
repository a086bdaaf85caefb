use Rattle.std.proofs.Common.{ℕ, ◌+◌, length}
use Rattle.exact_rows.specs.Sparse.{AreEntries}
use Rattle.exact_rows.proofs.Merging.{Merged}
use Rattle.exact_rows.proofs.merge.mixed_entries.Given as goal

abbrev pub invariant-loop-column : goal.invariant-loop-column
invariant-loop-column l = (n : ℕ) → AreEntries n l.row → AreEntries n l.other → (c : ℕ) × Merged n c l.fn.scale l.fn.share l.row l.other l.left l.right l.mixed.items

abbrev pub decreases-loop-column : goal.decreases-loop-column
decreases-loop-column l = length l.left + length l.right
