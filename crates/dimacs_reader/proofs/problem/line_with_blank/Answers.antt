use Rattle.std.proofs.Common.{subst}
use Rattle.dimacs_reader.specs.ProblemLines.{IsLineSoFar}
use Rattle.dimacs_reader.specs.declared.problem.ProblemLine.{ProblemLine}
use Rattle.dimacs_reader.proofs.ProblemSteps.{vars_end, clauses_end, blank_again}
use Rattle.dimacs_reader.proofs.problem.line_with_blank.Goals as goal

pub returns-in-Vars : goal.returns-in-Vars
returns-in-Vars c bytes b h so = vars_end c.in-Vars.vars bytes b h (subst (λ (l : ProblemLine). IsLineSoFar bytes l) c.in-Vars.is so)

pub returns-in-Clauses : goal.returns-in-Clauses
returns-in-Clauses c bytes b h so = clauses_end c.in-Clauses.vars c.in-Clauses.clauses bytes b h (subst (λ (l : ProblemLine). IsLineSoFar bytes l) c.in-Clauses.is so)

pub returns-in_default : goal.returns-in_default
returns-in_default c bytes b h so = blank_again c.args.line c.in_default.not-P c.in_default.not-C c.in_default.not-Cn c.in_default.not-Cnf c.in_default.not-Vars c.in_default.not-Clauses bytes b h so
