use Rattle.std.proofs.Common.{◌≡◌}
use Rattle.lk_samples.proofs.written.push_row.Given as goal

abbrev pub invariant-loop : goal.invariant-loop
invariant-loop l = l.formula.vars ≡ l.fn.formula.vars
