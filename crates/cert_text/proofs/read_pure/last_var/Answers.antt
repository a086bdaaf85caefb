use Rattle.std.proofs.Common.{◌∙◌, ap, sym}
use Rattle.std.specs.Option.{option_copied}
use Rattle.lk_model.specs.declared.document.Pair.{Pair}
use Rattle.line_text.proofs.LastOnes.{last_read}
use Rattle.cert_text.proofs.EntryWords.{none_read}
use Rattle.cert_text.proofs.read_pure.last_var.Goals as goal

pub returns-in-Some : goal.returns-in-Some
returns-in-Some c = last_read (λ (q : Pair). q.var) c.args.pairs.now c.in-Some.pair.now (sym c.last.ensures.value ∙ ap option_copied c.in-Some.is)

pub returns-in-None : goal.returns-in-None
returns-in-None c = none_read (λ (q : Pair). q.var) c.args.pairs.now (sym c.last.ensures.value ∙ ap option_copied c.in-None.is)
