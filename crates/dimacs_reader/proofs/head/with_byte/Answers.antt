use Rattle.std.proofs.Common.{subst}
use Rattle.dimacs_reader.specs.Stages.{StandsInHead}
use Rattle.dimacs_reader.specs.declared.head.HeadLine.{HeadLine}
use Rattle.dimacs_reader.proofs.HeadStands.{problem_goes_on}
use Rattle.dimacs_reader.proofs.head.with_byte.Goals as goal

pub returns-in-Problem-clause-ok : goal.returns-in-Problem-clause-ok
returns-in-Problem-clause-ok c fed e h =
    problem_goes_on c.in-Problem.problem c.line_with.result fed c.args.byte c.requires.no_newline (λ bytes so. c.line_with.ensures bytes so) (subst (λ (l : HeadLine). StandsInHead fed l) c.in-Problem.is h)
