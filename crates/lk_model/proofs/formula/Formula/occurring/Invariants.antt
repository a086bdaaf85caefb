use Rattle.std.proofs.Common.{◌≡◌, ◌≤◌, filter}
use Rattle.std.specs.List.{All}
use Rattle.lk_model.specs.Lists.{up_to}
use Rattle.lk_model.specs.Limits.{max_vars}
use Rattle.lk_model.specs.Formulas.Formula.{variable_occurs}
use Rattle.lk_model.proofs.formula.Formula.occurring.Given as goal

-- those of the variables so far that occur
abbrev pub invariant-loop-v : goal.invariant-loop-v
invariant-loop-v l = record {
  value : l.vars ≡ filter (variable_occurs l.self l.part) (up_to l.v);
  range : All (λ v. v ≤ max_vars) l.vars;
}
