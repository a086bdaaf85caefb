use Rattle.std.proofs.Common.{◌∷◌, [], ℕ, sym, subst}
use Rattle.std.proofs.lemmas.Result.{err_from_is_err_and}
use Rattle.dimacs_reader.specs.ReadStates.{Leads}
use Rattle.dimacs_reader.specs.Stages.{StandsInNumbers}
use Rattle.dimacs_reader.specs.declared.numbers.NumberLine.{NumberLine}
use Rattle.dimacs_reader.proofs.Cuts.{piece}
use Rattle.dimacs_reader.proofs.NumberStands.{blank_stays, word_ends, blank_at_fault}
use Rattle.dimacs_reader.proofs.numbers.with_blank.Goals as goal

pub returns-in_err-add_word-in-Word-clause-fault : goal.returns-in_err-add_word-in-Word-clause-fault
returns-in_err-add_word-in-Word-clause-fault c fed b blank e size h =
    let p = err_from_is_err_and c.from_residual.result c.from_residual.ensures.1 in
    rw (p.1, p.2) (blank_at_fault fed b c.args.before c.args.state.now c.in-Word.word c.in_err-add_word-in-Word.field-0.0 e blank size c.in_err-add_word-in-Word.ensures.fault
    (subst (λ (l : NumberLine). StandsInNumbers fed c.args.state.now l) c.in-Word.is h))

pub returns-in_ok-add_word-in-Word-clause-ok : goal.returns-in_ok-add_word-in-Word-clause-ok
returns-in_ok-add_word-in-Word-clause-ok c fed b blank e size h =
    word_ends fed b c.args.state.now c.add_word.new.state c.in-Word.word e blank
    (λ bytes so. subst (λ (n : ℕ). Leads (piece bytes n ∷ []) c.args.state.now c.add_word.new.state) (sym size) (c.in_ok-add_word-in-Word.ensures.ok bytes so))
    (subst (λ (l : NumberLine). StandsInNumbers fed c.args.state.now l) c.in-Word.is h)

pub returns-in_default : goal.returns-in_default
returns-in_default c = record {
  fits = c.requires;
  ok = λ fed b blank e size h. blank_stays c.args.line c.in_default.not-Word fed b c.args.state.now e blank h;
  fault = λ fed b blank e size h. tt;
}
