use Rattle.std.proofs.Common.{◌∙◌, arith}
use Rattle.lean_checker.proofs.OtherFormulas.{same_formula, other_vars, other_clauses}
use Rattle.lean_checker.proofs.common.other_formula.Goals as goal
use Rattle.lean_checker.proofs.common.other_formula.Goals.{else-vars-via-then-vars+else-clauses-len, else-vars-via-else-vars}

pub returns-then-clauses-len-clause-place : goal.returns-then-clauses-len-clause-place
returns-then-clauses-len-clause-place c = same_formula c.args.f.now c.args.vars c.args.clauses (c.if-vars.true ∙ c.vars.ensures.value) (c.if-clauses-len.true ∙ c.len.ensures.value)

pub returns-else-vars-clause-place : goal.returns-else-vars-clause-place
returns-else-vars-clause-place c = elim c.else-vars.branch [
  | else-vars-via-then-vars+else-clauses-len w ↦ other_clauses c.args.f.now c.args.vars c.args.clauses (λ e. absurd (omega (arith, w.if-clauses-len.false, w.len.ensures.value, e)))
  | else-vars-via-else-vars w ↦ other_vars c.args.f.now c.args.vars c.args.clauses (λ e. absurd (omega (arith, w.if-vars.false, c.vars.ensures.value, e)))
]
