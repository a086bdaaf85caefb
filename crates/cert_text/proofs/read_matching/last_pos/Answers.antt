use Rattle.std.proofs.Common.{◌∙◌, ap, sym}
use Rattle.std.specs.Option.{option_copied}
use Rattle.lk_model.specs.declared.document.Own.{Own}
use Rattle.line_text.proofs.LastOnes.{last_read}
use Rattle.cert_text.proofs.EntryWords.{none_read}
use Rattle.cert_text.proofs.read_matching.last_pos.Goals as goal

pub returns-in-Some : goal.returns-in-Some
returns-in-Some c = last_read (λ (o : Own). o.pos) c.args.own.now c.in-Some.own.now (sym c.last.ensures.value ∙ ap option_copied c.in-Some.is)

pub returns-in-None : goal.returns-in-None
returns-in-None c = none_read (λ (o : Own). o.pos) c.args.own.now (sym c.last.ensures.value ∙ ap option_copied c.in-None.is)
