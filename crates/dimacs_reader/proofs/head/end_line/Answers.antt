use Rattle.std.proofs.Common.{◌∙◌, sym, subst}
use Rattle.std.proofs.lemmas.Result.{err_from_is_err_and}
use Rattle.dimacs_reader.specs.Stages.{StandsInHead}
use Rattle.dimacs_reader.specs.declared.head.HeadLine.{HeadLine}
use Rattle.dimacs_reader.proofs.HeadStands.{problem_ends, problem_at_fault_ends}
use Rattle.dimacs_reader.proofs.head.end_line.Goals as goal

pub returns-in_err-vars-clause-fault : goal.returns-in_err-vars-clause-fault
returns-in_err-vars-clause-fault c fed e h =
    let p = err_from_is_err_and c.from_residual.result c.from_residual.ensures.1 in
    rw (p.1, p.2)
    (problem_at_fault_ends fed c.in-Problem.problem c.in_err-vars.field-0.0 (λ bytes so. let is = c.in_err-vars.ensures.fault bytes so in (is.0, is.1 ∙ sym e))
    (subst (λ (l : HeadLine). StandsInHead fed l) c.in-Problem.is h))

pub returns-clause-ok : goal.returns-clause-ok
returns-clause-ok c fed e h =
    let limits = c.in_ok-vars.ensures.limits in
    problem_ends fed c.in-Problem.problem c.in_ok-vars.vars c.in_ok-vars.clauses limits.0 limits.1 (λ bytes so. c.in_ok-vars.ensures.ok bytes so)
    (subst (λ (l : HeadLine). StandsInHead fed l) c.in-Problem.is h)
