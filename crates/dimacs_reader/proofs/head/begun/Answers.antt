use Rattle.dimacs_reader.proofs.HeadStands.{problem_begins}
use Rattle.dimacs_reader.proofs.head.begun.Goals as goal

pub returns-in-112-clause-ok : goal.returns-in-112-clause-ok
returns-in-112-clause-ok c fed e h = problem_begins fed c.args.byte c.requires.no_newline c.requires.no_blank c.in-112.is h
