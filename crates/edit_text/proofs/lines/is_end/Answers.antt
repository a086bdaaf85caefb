use Rattle.std.proofs.Common.{refl, sym, ap}
use Rattle.lk_model.specs.Lists.{is_empty}
use Rattle.model_text.proofs.Lines.{words_none, words_next}
use Rattle.edit_text.proofs.lines.is_end.Goals as goal

pub returns-in-Some : goal.returns-in-Some
returns-in-Some c = sym (ap is_empty (words_next c.args.line.now c.args.from c.in-Some.field-0 c.in-Some.ensures.word))

pub returns-in-None : goal.returns-in-None
returns-in-None c = sym (ap is_empty (words_none c.args.line.now c.args.from (c.in-None.ensures.none.0 refl)))
