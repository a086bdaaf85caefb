use Rattle.std.proofs.Common.{◌∙◌, drop, refl, sym, ap}
use Rattle.std.specs.Prelude.{slice_range, option_map}
use Rattle.std.specs.Str.{bytes_eq}
use Rattle.std.proofs.lemmas.Result.{IfOk-weaker}
use Rattle.edit_text.specs.Fed.{TakesLine, MakesIfAny}
use Rattle.edit_text.specs.declared.edit.Edit.TheVariants.{Add, Remove}
use Rattle.model_text.specs.ModelTexts.{words_in}
use Rattle.model_text.proofs.Lines.{words_none, words_next}
use Rattle.edit_text.specs.EditText.{added, removed}
use Rattle.edit_text.proofs.LineSteps.{takes_blank, takes_comment, takes_added, takes_removed, takes_none}
use Rattle.edit_text.proofs.lines.take_line.Goals as goal

pub returns-in_default-clause-taken : goal.returns-in_default-clause-taken
returns-in_default-clause-taken c = λ s edits t.
    takes_blank s edits (words_in c.args.line.now) c.args.draft.now t (words_none c.args.line.now 0 (c.in_default.ensures.none.0 refl))

pub returns-then-first-eq99-clause-taken : goal.returns-then-first-eq99-clause-taken
returns-then-first-eq99-clause-taken c = λ s edits t.
    let line = c.args.line.now in
    let w = c.in-Some.word in
    takes_comment s edits (words_in line) (words_in (drop w.next line)) (slice_range line w.begin w.end) c.args.draft.now t (words_next line 0 w c.in-Some.ensures.word) c.if-first-eq99.true

pub returns-then-eq-clause-taken : goal.returns-then-eq-clause-taken
returns-then-eq-clause-taken c = λ s edits t.
    let line = c.args.line.now in
    let w = c.in-Some.word in
    let first = slice_range line w.begin w.end in
    let rest = words_in (drop w.next line) in
    let next = c.take_added.new.draft in
    IfOk-weaker c.take_added.result (λ fault. MakesIfAny s edits (option_map Add (added s.held.vars rest)) fault next) (λ fault. TakesLine s edits (words_in line) fault next)
    (λ fault h. takes_added s edits (words_in line) rest first fault next (words_next line 0 w c.in-Some.ensures.word)
    (sym (ap (bytes_eq first) c.as_slice.ensures) ∙ sym c.eq.ensures ∙ c.if-eq.true) h) (c.take_added.ensures.taken s edits t)

pub returns-then-eq-2-clause-taken : goal.returns-then-eq-2-clause-taken
returns-then-eq-2-clause-taken c = λ s edits t.
    let line = c.args.line.now in
    let w = c.in-Some.word in
    let first = slice_range line w.begin w.end in
    let rest = words_in (drop w.next line) in
    let next = c.take_removed.new.draft in
    IfOk-weaker c.take_removed.result (λ fault. MakesIfAny s edits (option_map Remove (removed rest)) fault next) (λ fault. TakesLine s edits (words_in line) fault next)
    (λ fault h. takes_removed s edits (words_in line) rest first fault next (words_next line 0 w c.in-Some.ensures.word)
    (sym (ap (bytes_eq first) c.as_slice-2.ensures) ∙ sym c.eq-2.ensures ∙ c.if-eq-2.true) h) (c.take_removed.ensures.taken s edits t)

pub returns-clause-taken : goal.returns-clause-taken
returns-clause-taken c = λ s edits t.
    let line = c.args.line.now in
    let w = c.in-Some.word in
    let first = slice_range line w.begin w.end in
    takes_none s edits (words_in line) (words_in (drop w.next line)) first c.args.draft.now (words_next line 0 w c.in-Some.ensures.word) c.if-first-eq99.false
    (sym (ap (bytes_eq first) c.as_slice.ensures) ∙ sym c.eq.ensures ∙ c.if-eq.false) (sym (ap (bytes_eq first) c.as_slice-2.ensures) ∙ sym c.eq-2.ensures ∙ c.if-eq-2.false)
