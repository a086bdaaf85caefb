use Rattle.std.proofs.Common.{sym, subst}
use Rattle.std.proofs.lemmas.Result.{err_from_is_err_and}
use Rattle.dimacs_reader.specs.Stages.{StandsInNumbers, EndsAs}
use Rattle.dimacs_reader.specs.declared.clauses.ReadState.{ReadState}
use Rattle.dimacs_reader.specs.declared.numbers.NumberLine.{NumberLine}
use Rattle.dimacs_reader.proofs.Endings.{no_word, word_at_end, word_fault_at_end}
use Rattle.dimacs_reader.proofs.reading.with_last_word.Goals as goal
use Rattle.dimacs_reader.proofs.reading.with_last_word.Goals.{in-Word+in_ok-add_word, in_default}

pub returns-in_err-add_word-clause-fault : goal.returns-in_err-add_word-clause-fault
returns-in_err-add_word-clause-fault c fed e h =
    let p = err_from_is_err_and c.from_residual.result c.from_residual.ensures.1 in
    rw (p.1, p.2)
    (word_fault_at_end fed c.args.state c.in-Word.word c.args.last c.in_err-add_word.field-0.0 e c.in_err-add_word.ensures.fault (subst (λ (l : NumberLine). StandsInNumbers fed c.args.state l) c.in-Word.is h))

pub returns-clause-ok : goal.returns-clause-ok
returns-clause-ok c fed e h = elim c.match-line.branch [
  | in-Word+in_ok-add_word w ↦
      subst (λ (s : ReadState). EndsAs fed s) (sym w.state-is)
      (word_at_end fed c.args.state w.add_word.new.state w.in-Word.word c.args.last e w.in_ok-add_word.ensures.ok (subst (λ (l : NumberLine). StandsInNumbers fed c.args.state l) w.in-Word.is h))
  | in_default w ↦ subst (λ (s : ReadState). EndsAs fed s) (sym w.state-is) (no_word fed c.args.state c.args.line w.in_default.not-Word h)
]
