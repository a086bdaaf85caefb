use Rattle.std.proofs.Common.{◌≢◌, ◌-◌, ◌<◌, ℕ, get_or, pos}
use Rattle.lk_model.specs.Formulas.Literal.{variable}
use Rattle.match_edits.proofs.parts.variable_of.Given as goal

abbrev pub invariant-loop-l : goal.invariant-loop-l
invariant-loop-l l = (k : ℕ) → k < l.l-index → get_or l.of_var (variable (get_or l.l-items k (pos 0)) - 1) 0 ≢ l.number
