use Rattle.std.proofs.Common.{take}
use Rattle.check_linear.specs.Linear.{AddsNumbers}
use Rattle.check_linear.proofs.linear.add_numbers.Given as goal

-- the numbers of the literals so far
abbrev pub invariant-loop-l : goal.invariant-loop-l
invariant-loop-l l = AddsNumbers l.n l.y (take l.l-index l.clause) l.fn.table l.table
