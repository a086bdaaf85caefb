use Rattle.std.proofs.Common.{◌≡◌, length}
use Rattle.cdcl_core.specs.Backward.{WalksBack}
use Rattle.cdcl_core.proofs.analysis.analyze.Given as goal

-- a walk up to the place
abbrev pub invariant-loop-place : goal.invariant-loop-place
invariant-loop-place l = record {
  size : length l.marks ≡ length l.fn.marks;
  walks : WalksBack l.p l.conflict l.turns.items l.marks l.unresolved l.place;
}
