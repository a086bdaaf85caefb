-- How `check` ends on what `reduce` wrote.
use Rattle.std.specs.Prelude.{◌≡◌, ℕ, List, [], ◌∷◌, Some}
use Rattle.lk_model.specs.Texts.Lines.{Word}
use Rattle.lk_model.specs.Texts.PlainText.{line}
use Rattle.lk_model.specs.declared.class.Class.{Class}
use Rattle.lk_model.specs.declared.class.Class.TheVariants.{Pure, Matching, Linear, General}
use Rattle.lean_checker.specs.Verdicts.{verdict_words}
use Rattle.lean_checker.specs.declared.verdict.Verdict.{Verdict}
use Rattle.lean_checker.specs.declared.verdict.Verdict.TheVariants.{Accepted, Unfinished}
use Rattle.status_lines.specs.Verdicts.{verdict_status}
use Rattle.workbench.specs.Endings.{Shelved, Sunk, Takes, Ends, IsDecided}
use Rattle.command_inputs.specs.Inputs.{Told}
use Rattle.command_words.specs.Lawful.{request_of}
use Rattle.command_words.specs.Settings.{Options}
use Rattle.status_lines.specs.Statuses.{code}
use Rattle.command_words.specs.declared.command.Command.{Command}
use Rattle.command_words.specs.declared.command.Command.TheVariants.{ReducePure, ReduceMatching, ReduceLinear, ReduceGeneral, Check}

-- the words ask for the command over these inputs, with these options
abbrev pub AskFor : List Word → Command → List Word → Options → Type 0
AskFor words command names options = request_of words ≡ Some (record { command = command; names = names; options = options })

-- the command that reduces for a class
abbrev pub reducing : Class → Command
reducing Pure = ReducePure
reducing Matching = ReduceMatching
reducing Linear = ReduceLinear
reducing General = ReduceGeneral

-- Some run of a command over one input, with these options, ended with this status: it read the one text, which was
-- visible, and the other is all that stands on its `out`.
pub record HasWrittenBy (command : Command) (options : Options) (text : List ℕ) (answer : ℕ) (written : List ℕ) : Type 0 where
  pub words : List Word
  pub shelf : Shelved
  pub out : Sunk
  pub say : Sunk
  pub name : Word
  pub asks : AskFor words command (name ∷ []) options
  pub text_is : shelf.told name ≡ Some text
  pub ends : Ends words shelf out say answer
  pub empty : out.before ≡ Some []
  pub written_is : out.after ≡ Some written

-- some run of `reduce` for the class ended so
abbrev pub HasWritten : Class → Options → List ℕ → ℕ → List ℕ → Type 0
HasWritten class = HasWrittenBy (reducing class)

-- the words ask for a check of the one text as a formula, and of the other as a document
pub record AsksCheck (words : List Word) (told : Told) (text written : List ℕ) : Type 0 where
  pub formula : Word
  pub document : Word
  pub options : Options
  pub asks : AskFor words Check (formula ∷ document ∷ []) options
  pub text_is : told formula ≡ Some text
  pub written_is : told document ≡ Some written

-- The status of this verdict is decided, and with it the line of the verdict stands on `out`, and nothing was said.
pub record ChecksAs (words : List Word) (shelf : Shelved) (out say : Sunk) (verdict : Verdict) : Type 0 where
  pub decided : IsDecided (request_of words) shelf.told (verdict_status verdict)
  pub writes : Ends words shelf out say (code (verdict_status verdict)) → Takes out (line (verdict_words verdict)) × (say.after ≡ say.before)

-- what `reduce` wrote with status 0, `check` accepts for the text that was read
abbrev pub WrittenChecksAsAccepted : Type 0
WrittenChecksAsAccepted = (class : Class) (options : Options) (text written : List ℕ) → HasWritten class options text 0 written
    → (words : List Word) (shelf : Shelved) (out say : Sunk) → AsksCheck words shelf.told text written → ChecksAs words shelf out say Accepted

-- what `reduce general` wrote with status 5 is unfinished to `check`, with as many learned clauses as were allowed
abbrev pub StoppedChecksAsUnfinished : Type 0
StoppedChecksAsUnfinished = (options : Options) (text written : List ℕ) → HasWritten General options text 5 written
    → (words : List Word) (shelf : Shelved) (out say : Sunk) → AsksCheck words shelf.told text written → ChecksAs words shelf out say (Unfinished options.conflicts)
