use Rattle.std.proofs.Common.{◌≡◌, ◌≤◌, drop, min}
use Rattle.check_linear.specs.Linear.{least_stage}
use Rattle.check_linear.proofs.linear.least_stage.Given as goal

-- the least stage so far and that of the literals that are left give that of all
abbrev pub invariant-loop-l : goal.invariant-loop-l
invariant-loop-l l = record {
  most : l.least ≤ l.last;
  rest : min l.least (least_stage l.last l.places (drop l.l-index l.clause)) ≡ least_stage l.last l.places l.clause;
}
