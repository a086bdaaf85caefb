use Rattle.std.proofs.Common.{drop}
use Rattle.check_linear.specs.Linear.{AreDuals}
use Rattle.check_linear.proofs.linear.duals_of.Given as goal

-- the table of the lines so far, which stand last
abbrev pub invariant-loop-i : goal.invariant-loop-i
invariant-loop-i l = AreDuals l.m (drop l.i l.dual) l.table.items
