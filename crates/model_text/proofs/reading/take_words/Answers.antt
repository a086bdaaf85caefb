use Rattle.std.proofs.Common.{true, false, ◌∷◌, ◌∙◌, List, [], ◌++◌, length, drop, refl, subst, arith}
use Rattle.std.specs.Prelude.{slice_range, filter_map}
use Rattle.lk_model.specs.Texts.Lines.{Word}
use Rattle.lk_model.specs.Texts.NumberWords.{number}
use Rattle.model_text.specs.ModelTexts.{words_in}
use Rattle.model_text.proofs.Lines.{words_none, words_next}
use Rattle.model_text.proofs.Steps.{AreTaken, none_taken, more_taken, more_refused, all_taken, by_answer}
use Rattle.model_text.proofs.reading.take_words.Goals as goal

pub loop-cut-init : goal.loop-cut-init
loop-cut-init c = record {
  within = c.requires.within;
  vars = refl;
  taken = λ numbers g. none_taken (length c.args.draft.now.values) numbers (words_in (drop c.args.begin c.args.line.now)) c.args.draft.now g;
}

pub returns-then-not-take_word-clause-taken : goal.returns-then-not-take_word-clause-taken
returns-then-not-take_word-clause-taken c = λ numbers g.
    let line = c.args.line.now in
    let cut = c.in-Some.cut in
    let d = c.loop-cut.draft in
    let n = length c.args.draft.now.values in
    let all = words_in (drop c.args.begin line) in
    let word = slice_range line cut.begin cut.end in
    let rest = words_in (drop cut.next line) in
    let t = subst (λ (ws : List Word). AreTaken n numbers all ws d) (words_next line c.loop-cut.from cut c.in-Some.ensures.word) (c.loop-cut.invariant.taken numbers g) in
    let before = numbers ++ filter_map number t.done in
    let refused = by_answer (length d.values) n before (word ∷ []) c.take_word.result false c.take_word.new.draft c.loop-cut.invariant.vars c.if-not-take_word.true
    (c.take_word.ensures.taken before t.taken.1) in
    more_refused n numbers all rest word d c.take_word.new.draft t refused

pub loop-cut-preserved : goal.loop-cut-preserved
loop-cut-preserved c = record {
  within = omega (arith, c.in-Some.ensures.word.next, c.in-Some.ensures.word.within);
  vars = c.take_word.ensures.vars ∙ c.loop-cut.invariant.vars;
  taken = λ numbers g.
      let line = c.args.line.now in
      let cut = c.in-Some.cut in
      let d = c.loop-cut.draft in
      let n = length c.args.draft.now.values in
      let all = words_in (drop c.args.begin line) in
      let word = slice_range line cut.begin cut.end in
      let rest = words_in (drop cut.next line) in
      let t = subst (λ (ws : List Word). AreTaken n numbers all ws d) (words_next line c.loop-cut.from cut c.in-Some.ensures.word) (c.loop-cut.invariant.taken numbers g) in
      let before = numbers ++ filter_map number t.done in
      let taken = by_answer (length d.values) n before (word ∷ []) c.take_word.result true c.take_word.new.draft c.loop-cut.invariant.vars c.if-not-take_word.false
      (c.take_word.ensures.taken before t.taken.1) in
      more_taken n numbers all rest word d c.take_word.new.draft t taken;
}

pub returns-clause-taken : goal.returns-clause-taken
returns-clause-taken c = λ numbers g.
    let line = c.args.line.now in
    let n = length c.args.draft.now.values in
    let all = words_in (drop c.args.begin line) in
    all_taken n numbers all c.loop-cut.draft
    (subst (λ (ws : List Word). AreTaken n numbers all ws c.loop-cut.draft) (words_none line c.loop-cut.from (c.in_default.ensures.none.0 refl)) (c.loop-cut.invariant.taken numbers g))
