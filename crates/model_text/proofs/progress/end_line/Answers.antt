use Rattle.std.proofs.Common.{List, ℕ, length, subst}
use Rattle.model_text.specs.ModelTexts.{TakesLine, words_in}
use Rattle.model_text.proofs.progress.end_line.Goals as goal

pub returns-clause-taken : goal.returns-clause-taken
returns-clause-taken c = λ numbers g.
    let call = c.take_line-taken in
    let n = length c.args.draft.now.values in
    subst (λ (line : List ℕ). TakesLine n numbers (words_in line) call.result call.new.draft) c.as_slice.ensures.value (call.ensures.taken numbers g)
