use Rattle.std.proofs.Common.{◌∙◌, ap, sym}
use Rattle.std.specs.Option.{option_copied}
use Rattle.lk_model.specs.declared.document.Unit.{Unit}
use Rattle.line_text.proofs.LastOnes.{last_read}
use Rattle.cert_text.proofs.EntryWords.{none_read}
use Rattle.cert_text.proofs.read_linear.last_var.Goals as goal

pub returns-in-Some : goal.returns-in-Some
returns-in-Some c = last_read (λ (u : Unit). u.var) c.args.units.now c.in-Some.unit.now (sym c.last.ensures.value ∙ ap option_copied c.in-Some.is)

pub returns-in-None : goal.returns-in-None
returns-in-None c = none_read (λ (u : Unit). u.var) c.args.units.now (sym c.last.ensures.value ∙ ap option_copied c.in-None.is)
