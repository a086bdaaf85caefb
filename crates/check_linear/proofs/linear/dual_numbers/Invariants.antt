use Rattle.std.proofs.Common.{take}
use Rattle.lk_model.specs.Documents.Documents.{duals_at}
use Rattle.check_linear.specs.Linear.{AreNumbers}
use Rattle.check_linear.proofs.linear.dual_numbers.Given as goal

-- the numbers of the lines so far
abbrev pub invariant-loop-i : goal.invariant-loop-i
invariant-loop-i l = AreNumbers l.f (duals_at (take l.i l.dual)) l.table.items
