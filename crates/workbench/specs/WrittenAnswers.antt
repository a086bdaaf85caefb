-- How `verify` and `check` end on what `solve` wrote.
use Rattle.std.specs.Prelude.{◌≡◌, ◌⊎◌, ℕ, List, [], ◌∷◌, length, Some, None}
use Rattle.lk_model.specs.Formulas.Formula.{Cnf}
use Rattle.lk_model.specs.Texts.Dimacs.{Spells}
use Rattle.lk_model.specs.Texts.Lines.{Word}
use Rattle.lean_checker.specs.declared.verdict.Verdict.TheVariants.{Accepted, Unfinished}
use Rattle.lk_model.specs.Documents.Answers.{IsAnswerText}
use Rattle.answer_check.specs.AnswerChecks.{first_failure_of_answer}
use Rattle.lk_model.specs.declared.answer.Answer.{Answer}
use Rattle.command_inputs.specs.Inputs.{Told}
use Rattle.command_words.specs.Settings.{Options}
use Rattle.command_words.specs.declared.command.Command.TheVariants.{Solve, Verify}
use Rattle.workbench.specs.Agreement.{IsUnfinishedFor}
use Rattle.workbench.specs.Endings.{Shelved, Sunk}
use Rattle.workbench.specs.WrittenChecks.{AskFor, HasWrittenBy, AsksCheck, ChecksAs}
use Rattle.command_endings.specs.Commands.Solve.{WritesModel, WritesRefutation, WritesUnfinishedSearch}

-- OF THE TEXTS

-- the first text spells a formula, and the second is that of an answer of which no check fails
pub record IsVerifiedFor (text written : List ℕ) : Type 0 where
  pub F : Cnf
  pub a : Answer
  pub spells : Spells text F
  pub read : IsAnswerText F.vars (length F.clauses) written a
  pub passes : first_failure_of_answer F a ≡ None

-- The text spells a formula, and what is written is a model of it; or a refutation of it; or an unfinished document of it with
-- as many learned clauses as were allowed.
pub record IsSatisfiedText (text written : List ℕ) : Type 0 where
  pub formula : Cnf
  pub spells : Spells text formula
  pub writes : WritesModel formula written

pub record IsRefutedText (text : List ℕ) (options : Options) (written : List ℕ) : Type 0 where
  pub formula : Cnf
  pub spells : Spells text formula
  pub writes : WritesRefutation options formula written

pub record IsUndecidedText (text : List ℕ) (options : Options) (written : List ℕ) : Type 0 where
  pub formula : Cnf
  pub spells : Spells text formula
  pub writes : WritesUnfinishedSearch options formula written

-- no check fails of a model that is written, nor of a refutation, nor of what is written where the budget is used up
pub record SolvedIsVerified : Type 0 where
  pub model : (text written : List ℕ) → IsSatisfiedText text written → IsVerifiedFor text written
  pub refutation : (text : List ℕ) (options : Options) (written : List ℕ) → IsRefutedText text options written → IsVerifiedFor text written
  pub unfinished : (text : List ℕ) (options : Options) (written : List ℕ) → IsUndecidedText text options written → IsUnfinishedFor text written options.conflicts

-- OF RUNS

-- the words ask to verify the one text as a formula, and the other as an answer
pub record AsksVerify (words : List Word) (told : Told) (text written : List ℕ) : Type 0 where
  pub formula : Word
  pub answer : Word
  pub options : Options
  pub asks : AskFor words Verify (formula ∷ answer ∷ []) options
  pub text_is : told formula ≡ Some text
  pub written_is : told answer ≡ Some written

-- what `solve` wrote with status 10 or 20, `verify` accepts for the text that was read
abbrev pub WrittenVerifiesAsAccepted : Type 0
WrittenVerifiesAsAccepted = (options : Options) (text : List ℕ) (answer : ℕ) (written : List ℕ) → (answer ≡ 10) ⊎ (answer ≡ 20) → HasWrittenBy Solve options text answer written
    → (words : List Word) (shelf : Shelved) (out say : Sunk) → AsksVerify words shelf.told text written → ChecksAs words shelf out say Accepted

-- what it wrote with status 5 is unfinished to `check`, with as many learned clauses as were allowed
abbrev pub UnsolvedChecksAsUnfinished : Type 0
UnsolvedChecksAsUnfinished = (options : Options) (text written : List ℕ) → HasWrittenBy Solve options text 5 written
    → (words : List Word) (shelf : Shelved) (out say : Sunk) → AsksCheck words shelf.told text written → ChecksAs words shelf out say (Unfinished options.conflicts)
