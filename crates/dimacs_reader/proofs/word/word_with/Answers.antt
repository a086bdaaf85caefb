use Rattle.std.proofs.Common.{refl}
use Rattle.dimacs_reader.proofs.WordSteps.{no_digit}
use Rattle.dimacs_reader.proofs.word.word_with.Goals as goal

pub returns-in_default : goal.returns-in_default
returns-in_default c bytes so more = no_digit c.args.word c.args.byte (c.in_default.ensures.none refl) bytes so more
