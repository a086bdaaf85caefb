-- What is determined of a text that is read as an answer.
use Rattle.std.specs.Prelude.{◌≡◌, ◌≤◌, ℕ, List}
use Rattle.lk_model.specs.Limits.{max_vars, max_clauses}
use Rattle.lk_model.specs.Documents.Reading.{StopsAs}
use Rattle.lk_model.specs.Documents.Answers.{IsAnswerText, IsTextOfAnswer}
use Rattle.lk_model.specs.declared.answer.Answer.{Answer}

-- A text is that of one answer at most. The text of an answer stops nowhere, and no text stops at two lines.
pub record AnswerTextLaw : Type 0 where
  pub once : (n m : ℕ) (bytes : List ℕ) (a b : Answer) → n ≤ max_vars → m ≤ max_clauses → IsAnswerText n m bytes a → IsAnswerText n m bytes b → a ≡ b
  pub never : (n m : ℕ) (bytes : List ℕ) (a : Answer) (line : ℕ) → IsAnswerText n m bytes a → StopsAs (IsTextOfAnswer n m) bytes line → ⊥
  pub stop : (n m : ℕ) (bytes : List ℕ) (k line : ℕ) → StopsAs (IsTextOfAnswer n m) bytes k → StopsAs (IsTextOfAnswer n m) bytes line → k ≡ line
