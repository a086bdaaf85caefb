use Rattle.std.proofs.Common.{◌∙◌, sym, refl}
use Rattle.std.specs.Prelude.{codes}
use Rattle.std.specs.Str.{bytes_eq}
use Rattle.std.proofs.lemmas.Bool.{not-true}
use Rattle.answer_text.proofs.CoreLineForms.{other_line}
use Rattle.answer_text.proofs.ReadWords.{no_next_round}
use Rattle.answer_text.proofs.draft.round_in.Goals as goal

pub returns-then-ne : goal.returns-then-ne
returns-then-ne c =
    let line = c.args.line.now in
    let slice = c.as_slice.result.now in
    no_next_round line (other_line line slice (codes "c round") (bytes_eq line slice) c.as_slice.ensures refl (not-true (bytes_eq line slice) (sym c.ne.ensures ∙ c.if-ne.true)))
