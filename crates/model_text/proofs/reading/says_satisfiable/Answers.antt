use Rattle.std.proofs.Common.{◌∷◌, ◌∙◌, List, refl, sym, ap}
use Rattle.std.specs.Prelude.{slice_range}
use Rattle.std.specs.Str.{bytes_eq}
use Rattle.lk_model.specs.Texts.Lines.{Word}
use Rattle.lk_model.specs.Texts.ModelText.{is_satisfiable}
use Rattle.model_text.proofs.Lines.{words_none, words_next}
use Rattle.model_text.proofs.reading.says_satisfiable.Goals as goal

pub returns-in_default : goal.returns-in_default
returns-in_default c = sym (ap is_satisfiable (words_none c.args.line.now c.args.from (c.in_default.ensures.none.0 refl)))

pub returns-in-Some-next_word : goal.returns-in-Some-next_word
returns-in-Some-next_word c =
    let line = c.args.line.now in
    let a = c.in-Some.word in
    let b = c.in-Some-next_word.field-0 in
    sym (ap is_satisfiable (words_next line c.args.from a c.in-Some.ensures.word
    ∙ ap (λ (ws : List Word). slice_range line a.begin a.end ∷ ws) (words_next line a.next b c.in-Some-next_word.ensures.word)))

pub returns : goal.returns
returns c =
    let line = c.args.line.now in
    let a = c.in-Some.word in
    let none = words_none line a.next (c.in_default-next_word.ensures.none.0 refl) in
    let words = words_next line c.args.from a c.in-Some.ensures.word ∙ ap (λ (ws : List Word). slice_range line a.begin a.end ∷ ws) none in
    sym (ap is_satisfiable words ∙ sym (c.eq.ensures ∙ ap (bytes_eq (slice_range line a.begin a.end)) c.as_slice.ensures))
