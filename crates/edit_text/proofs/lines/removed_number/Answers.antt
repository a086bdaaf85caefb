use Rattle.std.proofs.Common.{◌∷◌, ◌∙◌, List, refl, sym, ap}
use Rattle.std.specs.Prelude.{slice_range}
use Rattle.lk_model.specs.Texts.Lines.{Word}
use Rattle.lk_model.specs.Texts.NumberWords.{natural}
use Rattle.model_text.proofs.Lines.{words_none, words_next}
use Rattle.edit_text.specs.EditText.{removed}
use Rattle.edit_text.proofs.LineSteps.{capped, no_number, zero_number, some_number, one_word}
use Rattle.edit_text.proofs.lines.removed_number.Goals as goal

pub returns-in_default : goal.returns-in_default
returns-in_default c = ap (λ ws. capped (removed ws)) (sym (words_none c.args.line.now c.args.from (c.in_default.ensures.none.0 refl)))

pub returns-in-Some-next_word : goal.returns-in-Some-next_word
returns-in-Some-next_word c =
    let line = c.args.line.now in
    let a = c.in-Some.word in
    let b = c.in-Some-next_word.field-0 in
    ap (λ ws. capped (removed ws)) (sym (words_next line c.args.from a c.in-Some.ensures.word
    ∙ ap (λ (ws : List Word). slice_range line a.begin a.end ∷ ws) (words_next line a.next b c.in-Some-next_word.ensures.word)))

pub returns-in_default-read_natural : goal.returns-in_default-read_natural
returns-in_default-read_natural c =
    let line = c.args.line.now in
    let a = c.in-Some.word in
    no_number (natural (slice_range line a.begin a.end)) c.in_default-read_natural.ensures
    ∙ ap (λ ws. capped (removed ws)) (sym (one_word line c.args.from a c.in-Some.ensures.word (c.in_default-next_word.ensures.none.0 refl)))

pub returns-then-number-eq0 : goal.returns-then-number-eq0
returns-then-number-eq0 c =
    let line = c.args.line.now in
    let a = c.in-Some.word in
    zero_number (natural (slice_range line a.begin a.end)) c.in-Some-read_natural.number c.in-Some-read_natural.ensures c.if-number-eq0.true
    ∙ ap (λ ws. capped (removed ws)) (sym (one_word line c.args.from a c.in-Some.ensures.word (c.in_default-next_word.ensures.none.0 refl)))

pub returns : goal.returns
returns c =
    let line = c.args.line.now in
    let a = c.in-Some.word in
    some_number (natural (slice_range line a.begin a.end)) c.in-Some-read_natural.number c.in-Some-read_natural.ensures c.if-number-eq0.false
    ∙ ap (λ ws. capped (removed ws)) (sym (one_word line c.args.from a c.in-Some.ensures.word (c.in_default-next_word.ensures.none.0 refl)))
