use Rattle.std.proofs.Common.{take}
use Rattle.check_linear.specs.Linear.{AreNumbers, numbers_by}
use Rattle.check_linear.proofs.units.fill.Given as goal

-- the numbers of the shares so far
abbrev pub invariant-loop-i : goal.invariant-loop-i
invariant-loop-i l = AreNumbers l.f (numbers_by (take l.i l.shares)) l.numbers.items
