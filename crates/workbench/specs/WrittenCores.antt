-- How `verify` and `check` end on what `mus` wrote.
use Rattle.std.specs.Prelude.{◌≡◌, ◌⊎◌, ℕ, ◌≤◌, List, length}
use Rattle.lk_model.specs.Limits.{max_bytes}
use Rattle.lk_model.specs.Formulas.Formula.{Cnf, clauses_at}
use Rattle.lk_model.specs.Texts.Dimacs.{Spells}
use Rattle.lk_model.specs.Texts.Lines.{Word}
use Rattle.lean_checker.specs.declared.verdict.Verdict.TheVariants.{Accepted, Unfinished}
use Rattle.command_words.specs.Settings.{Options}
use Rattle.command_words.specs.declared.command.Command.TheVariants.{Mus}
use Rattle.workbench.specs.Agreement.{IsUnfinishedFor}
use Rattle.workbench.specs.Endings.{Shelved, Sunk}
use Rattle.command_endings.specs.Commands.Mus.{WritesCore, WritesUnfinishedCore}
use Rattle.workbench.specs.WrittenAnswers.{IsVerifiedFor, AsksVerify}
use Rattle.workbench.specs.WrittenChecks.{HasWrittenBy, AsksCheck, ChecksAs}

-- OF THE TEXTS

-- The text spells a formula, and what is written is a minimally unsatisfiable core of it; or an unfinished document of some of its
-- clauses with as many learned clauses as were allowed.
pub record IsExtracted (text : List ℕ) (options : Options) (written : List ℕ) : Type 0 where
  pub formula : Cnf
  pub spells : Spells text formula
  pub writes : WritesCore options formula written

pub record IsUnextracted (text : List ℕ) (options : Options) (written : List ℕ) : Type 0 where
  pub formula : Cnf
  pub spells : Spells text formula
  pub writes : WritesUnfinishedCore options formula written

-- A core that is written is an answer of which no check fails. Where they are not too long to be read, a core that is written is
-- DIMACS, of the formula's clauses at its positions; and of what is written where the budget is used up no check fails for the
-- formula that it spells itself.
pub record ExtractedIsVerified : Type 0 where
  pub core : (text : List ℕ) (options : Options) (written : List ℕ) → IsExtracted text options written → IsVerifiedFor text written
  pub spells : (text : List ℕ) (options : Options) (written : List ℕ) → (e : IsExtracted text options written) → length written ≤ max_bytes → Spells written (clauses_at e.formula e.writes.core.core)
  pub unfinished : (text : List ℕ) (options : Options) (written : List ℕ) → IsUnextracted text options written → length written ≤ max_bytes → IsUnfinishedFor written written options.conflicts

-- OF RUNS

-- what `mus` wrote with status 0 or 10, `verify` accepts for the text that was read
abbrev pub ExtractedVerifiesAsAccepted : Type 0
ExtractedVerifiesAsAccepted = (options : Options) (text : List ℕ) (answer : ℕ) (written : List ℕ) → (answer ≡ 0) ⊎ (answer ≡ 10) → HasWrittenBy Mus options text answer written
    → (words : List Word) (shelf : Shelved) (out say : Sunk) → AsksVerify words shelf.told text written → ChecksAs words shelf out say Accepted

-- what it wrote with status 5 is unfinished to `check` as a document of the formula that it is itself, with as many learned
-- clauses as were allowed
abbrev pub UnextractedChecksAsUnfinished : Type 0
UnextractedChecksAsUnfinished = (options : Options) (text written : List ℕ) → HasWrittenBy Mus options text 5 written → length written ≤ max_bytes
    → (words : List Word) (shelf : Shelved) (out say : Sunk) → AsksCheck words shelf.told written written → ChecksAs words shelf out say (Unfinished options.conflicts)
