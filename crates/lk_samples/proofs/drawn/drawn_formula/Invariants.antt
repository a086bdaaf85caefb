use Rattle.std.proofs.Common.{◌≡◌}
use Rattle.lk_samples.proofs.drawn.drawn_formula.Given as goal

abbrev pub invariant-loop : goal.invariant-loop
invariant-loop l = l.formula.vars ≡ l.n
