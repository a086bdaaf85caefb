use Rattle.std.proofs.Common.{◌≡◌, drop}
use Rattle.check_places.specs.FirstAnswers.{first_answer}
use Rattle.check_places.proofs.answers.first_answer.Given as goal

-- the answers so far tell nothing
abbrev pub invariant-loop-answer : goal.invariant-loop-answer
invariant-loop-answer g l = first_answer l.answers ≡ first_answer (drop l.answer-index l.answers)
