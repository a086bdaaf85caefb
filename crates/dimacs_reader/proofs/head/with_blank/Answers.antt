use Rattle.std.proofs.Common.{subst}
use Rattle.dimacs_reader.specs.Stages.{StandsInHead}
use Rattle.dimacs_reader.specs.declared.head.HeadLine.{HeadLine}
use Rattle.dimacs_reader.proofs.HeadStands.{problem_goes_on, blank_head}
use Rattle.dimacs_reader.proofs.head.with_blank.Goals as goal

pub returns-in-Problem : goal.returns-in-Problem
returns-in-Problem c fed b blank e h =
    problem_goes_on c.in-Problem.problem c.line_with_blank.result fed b e (λ bytes so. c.line_with_blank.ensures bytes b blank so) (subst (λ (l : HeadLine). StandsInHead fed l) c.in-Problem.is h)

pub returns-in_default : goal.returns-in_default
returns-in_default c fed b blank e h = blank_head c.args.line c.in_default.not-Problem fed b blank e h
