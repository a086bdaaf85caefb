use Rattle.std.proofs.Common.{◌≡◌}
use Rattle.lk_samples.proofs.written.append_texts.Given as goal

abbrev pub invariant-loop-clause : goal.invariant-loop-clause
invariant-loop-clause l = l.formula.vars ≡ l.fn.formula.vars
