-- What is read of a text, and where a text stops being one of an answer.
use Rattle.std.specs.Prelude.{ℕ, List}
use Rattle.lk_model.specs.Documents.Answers.{IsAnswerText, IsTextOfAnswer}
use Rattle.lk_model.specs.declared.answer.Answer.{Answer}
use Rattle.lk_model.specs.declared.verdict.ReadStop.{ReadStop}
use Rattle.line_text.specs.LineReading.{Grammar, IsReadBy, IsAdmitted, IsStopOf}

-- The stop is at the first line with which no answer's text begins. A last line without byte 10 is such a line, since each
-- line of an answer has one; so is the line after the last, if the text ends too early. Memory may run out anywhere.
abbrev pub IsStopAt : ℕ → ℕ → List ℕ → ReadStop → Type 0
IsStopAt n m bytes stop = IsStopOf (IsTextOfAnswer n m) bytes stop

-- the texts of a reader's lines are those of answers, and so are its stops
pub record ReadsAnswers (n m : ℕ) (Completes : Grammar Answer) : Type 0 where
  pub text : (bytes : List ℕ) (a : Answer) → IsReadBy Completes bytes a → IsAnswerText n m bytes a
  pub stop : (bytes : List ℕ) (stop : ReadStop) → IsStopOf (IsAdmitted Completes) bytes stop → IsStopAt n m bytes stop
