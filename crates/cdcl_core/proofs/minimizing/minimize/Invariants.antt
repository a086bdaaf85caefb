use Rattle.std.proofs.Common.{◌≡◌, ℕ, length}
use Rattle.cdcl_core.specs.Backward.{LeadsBack}
use Rattle.cdcl_core.proofs.minimizing.minimize.Given as goal

-- what led to a clause with the marked variables at first does so still
abbrev pub invariant-loop-place : goal.invariant-loop-place
invariant-loop-place l = record {
  size : length l.marks ≡ length l.fn.marks;
  leads : (conflict : ℕ) → LeadsBack l.p conflict l.fn.turns.items l.fn.marks → LeadsBack l.p conflict l.turns.items l.marks;
}
