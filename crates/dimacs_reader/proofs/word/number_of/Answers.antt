use Rattle.dimacs_reader.proofs.WordSteps.{no_number}
use Rattle.dimacs_reader.proofs.word.number_of.Goals as goal

pub returns-in_default : goal.returns-in_default
returns-in_default c = record { over = tt; number = λ bytes so. tt; none = λ bytes so e. no_number c.args.word c.in_default.not-Digits bytes so }
