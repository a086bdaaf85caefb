use Rattle.std.proofs.Common.{refl, ap}
use Rattle.dimacs_reader.proofs.StateLemmas.{at_first}
use Rattle.dimacs_reader.proofs.clauses.nothing_read.Goals as goal

pub returns-clause-read : goal.returns-clause-read
returns-clause-read c =
    at_first (record { formula = c.in-Ok.formula; growing = c.in_ok-growing.growing; stated = c.args.stated; written = 0 }) c.in-Ok.ensures.ok.1 (ap (λ g. g.literals) c.in_ok-growing.ensures) refl
