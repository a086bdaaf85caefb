use Rattle.std.proofs.Common.{subst}
use Rattle.dimacs_reader.specs.Stages.{StandsInNumbers}
use Rattle.dimacs_reader.specs.declared.numbers.NumberLine.{NumberLine}
use Rattle.dimacs_reader.proofs.NumberStands.{gap_begins, word_goes_on, byte_stays}
use Rattle.dimacs_reader.proofs.numbers.with_byte.Goals as goal

pub returns-in-Gap-clause-ok : goal.returns-in-Gap-clause-ok
returns-in-Gap-clause-ok c fed e h =
    gap_begins fed c.args.byte c.args.state.now c.word_of.result c.requires.no_newline c.requires.no_blank c.word_of.ensures (subst (λ (l : NumberLine). StandsInNumbers fed c.args.state.now l) c.in-Gap.is h)

pub returns-in-Word-clause-ok : goal.returns-in-Word-clause-ok
returns-in-Word-clause-ok c fed e h =
    word_goes_on fed c.args.byte c.args.state.now c.in-Word.word c.word_with.result c.requires.no_newline c.requires.no_blank (λ bytes so. c.word_with.ensures bytes so)
    (subst (λ (l : NumberLine). StandsInNumbers fed c.args.state.now l) c.in-Word.is h)

pub returns-in_default-clause-ok : goal.returns-in_default-clause-ok
returns-in_default-clause-ok c fed e h =
    byte_stays c.args.line c.in_default.not-Start c.in_default.not-Gap c.in_default.not-Word fed c.args.byte c.args.state.now c.requires.no_newline h
