use Rattle.std.proofs.Common.{◌∙◌, length, drop, refl, sym, ap}
use Rattle.std.specs.Prelude.{slice_range}
use Rattle.std.specs.Str.{bytes_eq}
use Rattle.model_text.specs.ModelTexts.{words_in}
use Rattle.model_text.proofs.Lines.{words_none, words_next}
use Rattle.model_text.proofs.LineSteps.{takes_blank, takes_comment, takes_said, takes_numbered, takes_none}
use Rattle.model_text.proofs.reading.take_line.Goals as goal

pub returns-in_default-clause-taken : goal.returns-in_default-clause-taken
returns-in_default-clause-taken c = λ numbers g.
    takes_blank (length c.args.draft.now.values) numbers (words_in c.args.line.now) c.args.draft.now g (words_none c.args.line.now 0 (c.in_default.ensures.none.0 refl))

pub returns-then-first-eq99-clause-taken : goal.returns-then-first-eq99-clause-taken
returns-then-first-eq99-clause-taken c = λ numbers g.
    let line = c.args.line.now in
    let w = c.in-Some.word in
    takes_comment (length c.args.draft.now.values) numbers (words_in line) (words_in (drop w.next line)) (slice_range line w.begin w.end) c.args.draft.now g
    (words_next line 0 w c.in-Some.ensures.word) c.if-first-eq99.true

pub returns-then-eq-clause-taken : goal.returns-then-eq-clause-taken
returns-then-eq-clause-taken c = λ numbers g.
    let line = c.args.line.now in
    let w = c.in-Some.word in
    let first = slice_range line w.begin w.end in
    takes_said (length c.args.draft.now.values) numbers (words_in line) (words_in (drop w.next line)) first c.args.draft.now c.says_satisfiable.result g
    (words_next line 0 w c.in-Some.ensures.word) (sym (ap (bytes_eq first) c.as_slice.ensures) ∙ sym c.eq.ensures ∙ c.if-eq.true) c.says_satisfiable.ensures

pub returns-then-eq-2-clause-taken : goal.returns-then-eq-2-clause-taken
returns-then-eq-2-clause-taken c = λ numbers g.
    let line = c.args.line.now in
    let w = c.in-Some.word in
    let first = slice_range line w.begin w.end in
    takes_numbered (length c.args.draft.now.values) numbers (words_in line) (words_in (drop w.next line)) first c.take_words.new.draft c.take_words.result
    (words_next line 0 w c.in-Some.ensures.word) (sym (ap (bytes_eq first) c.as_slice-2.ensures) ∙ sym c.eq-2.ensures ∙ c.if-eq-2.true) (c.take_words.ensures.taken numbers g)

pub returns-clause-taken : goal.returns-clause-taken
returns-clause-taken c = λ numbers g.
    let line = c.args.line.now in
    let w = c.in-Some.word in
    let first = slice_range line w.begin w.end in
    takes_none (length c.args.draft.now.values) numbers (words_in line) (words_in (drop w.next line)) first c.args.draft.now
    (words_next line 0 w c.in-Some.ensures.word) c.if-first-eq99.false (sym (ap (bytes_eq first) c.as_slice.ensures) ∙ sym c.eq.ensures ∙ c.if-eq.false)
    (sym (ap (bytes_eq first) c.as_slice-2.ensures) ∙ sym c.eq-2.ensures ∙ c.if-eq-2.false)
