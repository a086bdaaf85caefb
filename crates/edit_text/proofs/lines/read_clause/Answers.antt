use Rattle.std.proofs.Common.{◌∙◌, List, drop, refl, sym, ap, subst, arith}
use Rattle.std.specs.Prelude.{slice_range}
use Rattle.lk_model.specs.Texts.Lines.{Word}
use Rattle.lk_model.specs.Texts.NumberWords.{number}
use Rattle.model_text.specs.ModelTexts.{words_in}
use Rattle.model_text.proofs.Lines.{words_none, words_next}
use Rattle.edit_text.specs.Words.{entry_of}
use Rattle.edit_text.proofs.ClauseWords.{AreRead, literal_read, other_read, zero_read, not_closed}
use Rattle.edit_text.proofs.lines.read_clause.Goals as goal

pub returns-in-Other-clause-read : goal.returns-in-Other-clause-read
returns-in-Other-clause-read c =
    let line = c.args.line.now in
    let n = c.args.clause.now.vars in
    let cut = c.in-Some.cut in
    let word = slice_range line cut.begin cut.end in
    let read = subst (λ (ws : List Word). AreRead n (words_in (drop c.args.begin line)) ws c.loop-cut.clause.literals) (words_next line c.loop-cut.from cut c.in-Some.ensures.word) c.loop-cut.invariant.read in
    other_read n (words_in (drop c.args.begin line)) (words_in (drop cut.next line)) word c.loop-cut.clause.literals read
    (c.in-Other.ensures ∙ ap (λ k. entry_of k (number word)) c.vars-n.ensures.value)

pub returns-in-Zero-clause-read : goal.returns-in-Zero-clause-read
returns-in-Zero-clause-read c =
    let line = c.args.line.now in
    let n = c.args.clause.now.vars in
    let cut = c.in-Some.cut in
    let word = slice_range line cut.begin cut.end in
    let read = subst (λ (ws : List Word). AreRead n (words_in (drop c.args.begin line)) ws c.loop-cut.clause.literals) (words_next line c.loop-cut.from cut c.in-Some.ensures.word) c.loop-cut.invariant.read in
    zero_read n (words_in (drop c.args.begin line)) (words_in (drop cut.next line)) word c.loop-cut.clause.literals c.is_end.result read
    (c.in-Zero.ensures ∙ ap (λ k. entry_of k (number word)) c.vars-n.ensures.value) c.is_end.ensures

pub loop-cut-preserved : goal.loop-cut-preserved
loop-cut-preserved c =
    let line = c.args.line.now in
    let n = c.args.clause.now.vars in
    let cut = c.in-Some.cut in
    let word = slice_range line cut.begin cut.end in
    let read = subst (λ (ws : List Word). AreRead n (words_in (drop c.args.begin line)) ws c.loop-cut.clause.literals) (words_next line c.loop-cut.from cut c.in-Some.ensures.word) c.loop-cut.invariant.read in
    record {
      within = omega (arith, c.in-Some.ensures.word.next, c.in-Some.ensures.word.within);
      vars = c.add_once.ensures.vars ∙ c.loop-cut.invariant.vars;
      read = subst (λ ls. AreRead n (words_in (drop c.args.begin line)) (words_in (drop cut.next line)) ls) (sym c.in_ok-add_once-in-Literal.ensures.added)
          (literal_read n (words_in (drop c.args.begin line)) (words_in (drop cut.next line)) word c.loop-cut.clause.literals c.in-Literal.literal read
          (c.in-Literal.ensures ∙ ap (λ k. entry_of k (number word)) c.vars-n.ensures.value));
    }

pub returns-clause-read : goal.returns-clause-read
returns-clause-read c =
    let line = c.args.line.now in
    let n = c.args.clause.now.vars in
    not_closed n (words_in (drop c.args.begin line)) c.loop-cut.clause.literals
    (subst (λ (ws : List Word). AreRead n (words_in (drop c.args.begin line)) ws c.loop-cut.clause.literals)
    (words_none line c.loop-cut.from (c.in_default.ensures.none.0 refl)) c.loop-cut.invariant.read)
