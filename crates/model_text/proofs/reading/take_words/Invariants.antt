use Rattle.std.proofs.Common.{◌≡◌, ◌≤◌, ◌-◌, List, ℤ, length, drop}
use Rattle.model_text.specs.ModelTexts.{Gives, words_in}
use Rattle.model_text.proofs.Steps.{AreTaken}
use Rattle.model_text.proofs.reading.take_words.Given as goal

-- the words before the place were taken
abbrev pub invariant-loop-cut : goal.invariant-loop-cut
invariant-loop-cut l = record {
  within : l.from ≤ length l.line;
  vars : length l.draft.values ≡ length l.fn.draft.values;
  taken : (numbers : List ℤ) → Gives numbers l.fn.draft → AreTaken (length l.fn.draft.values) numbers (words_in (drop l.begin l.line)) (words_in (drop l.from l.line)) l.draft;
}

abbrev pub decreases-loop-cut : goal.decreases-loop-cut
decreases-loop-cut l = length l.line - l.from
