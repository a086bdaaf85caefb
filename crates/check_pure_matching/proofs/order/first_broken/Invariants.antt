use Rattle.std.proofs.Common.{◌≡◌, ◌≤◌, ◌+◌, min, drop, length}
use Rattle.check_pure_matching.specs.Order.{first_broken}
use Rattle.check_pure_matching.proofs.order.first_broken.Given as goal

-- the least place so far and that of the clauses that are left give that of all
abbrev pub invariant-loop-i : goal.invariant-loop-i
invariant-loop-i l = record {
  small : l.first ≤ length l.order + 1;
  rest : min l.first (first_broken l.order (drop l.i l.f.clauses)) ≡ first_broken l.order l.f.clauses;
}
