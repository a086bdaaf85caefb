use Rattle.std.proofs.Common.{subst}
use Rattle.std.proofs.lemmas.Result.{err_from_is_err_and}
use Rattle.dimacs_reader.specs.Stages.{StandsInHead}
use Rattle.dimacs_reader.specs.declared.head.HeadLine.{HeadLine}
use Rattle.dimacs_reader.proofs.Endings.{no_problem_line, problem_fault_at_end, problem_at_end}
use Rattle.dimacs_reader.proofs.reading.with_last_line.Goals as goal

pub returns-in_default : goal.returns-in_default
returns-in_default c = record {
  fits = tt;
  ok = λ fed e h. tt;
  fault = λ fed e h. no_problem_line fed c.args.line c.args.last c.fault_at.result c.in_default.not-Problem e c.fault_at.ensures h;
}

pub returns-in_err-vars-clause-fault : goal.returns-in_err-vars-clause-fault
returns-in_err-vars-clause-fault c fed e h =
    let p = err_from_is_err_and c.from_residual.result c.from_residual.ensures.1 in
    rw (p.1, p.2)
    (problem_fault_at_end fed c.in-Problem.problem c.args.last c.in_err-vars.field-0.0 e (λ bytes so. c.in_err-vars.ensures.fault bytes so) (subst (λ (l : HeadLine). StandsInHead fed l) c.in-Problem.is h))

pub returns-clause-ok : goal.returns-clause-ok
returns-clause-ok c fed e h =
    let limits = c.in_ok-vars.ensures.limits in
    let stated = c.in_ok-nothing_read.ensures.stated in
    problem_at_end fed c.in-Problem.problem c.in_ok-vars.vars c.in_ok-vars.clauses c.in_ok-nothing_read.field-0 limits.0 limits.1 c.in_ok-nothing_read.ensures.read stated.0 stated.1
    (λ bytes so. c.in_ok-vars.ensures.ok bytes so) (subst (λ (l : HeadLine). StandsInHead fed l) c.in-Problem.is h)
