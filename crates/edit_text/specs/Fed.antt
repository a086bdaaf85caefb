-- What a reader holds, by the bytes that it was fed.
use Rattle.std.specs.Prelude.{◌≡◌, ◌≤◌, ℕ, ◌+◌, ◌∷◌, [], ◌++◌, if◌then◌else◌, List, length, count_by, IsTrue, Option, None, Some}
use Rattle.std.specs.Option.{option_to_list}
use Rattle.lk_model.specs.Limits.{max_bytes, max_clauses, max_literals}
use Rattle.lk_model.specs.Lists.{among}
use Rattle.lk_model.specs.Formulas.Formula.{Cnf, literal_count}
use Rattle.lk_model.specs.Held.VariableSets.{is_in}
use Rattle.lk_model.specs.Texts.Lines.{Word, is_newline}
use Rattle.lk_model.specs.Texts.ModelText.{word_lines}
use Rattle.lk_text.specs.Cutting.{is_one_line}
use Rattle.edit_text.specs.LiveClauses.{LiveClauses}
use Rattle.edit_text.specs.Edits.{edit_fault, after, after_all}
use Rattle.edit_text.specs.EditText.{IsFaultyAt, line_faults, line_fault, live_behind, edits_in, edit_in}
use Rattle.edit_text.specs.declared.edit.Edit.{Edit}
use Rattle.edit_text.specs.declared.edit.EditFault.{EditFault}
use Rattle.edit_text.specs.declared.edit.EditFault.TheVariants.{NotAnEdit}
use Rattle.edit_text.specs.declared.refusal.EditsRefused.{EditsRefused}
use Rattle.edit_text.specs.declared.refusal.EditsRefused.TheVariants.{Line, OutOfMemory}
use Rattle.edit_text.specs.declared.draft.Draft.{Draft}
use Rattle.edit_text.specs.declared.progress.OpenLine.{OpenLine}
use Rattle.edit_text.specs.declared.progress.Stage.{Stage}
use Rattle.edit_text.specs.declared.progress.Stage.TheVariants.{Reading, Faulty}
use Rattle.edit_text.specs.declared.progress.Progress.{Progress}
use Rattle.edit_text.specs.declared.progress.Held.{Held}
use Rattle.edit_text.specs.declared.progress.Held.TheVariants.{Going, Stopped}

-- THE LINES SO FAR

-- the draft says what is live, and which edits led there
pub record Tells (s : LiveClauses) (edits : List Edit) (draft : Draft) : Type 0 where
  pub vars : draft.clause.vars ≡ s.held.vars
  pub numbers : length draft.live.items ≡ length s.held.clauses
  pub literals : draft.literals ≡ literal_count s.held
  pub live : (k : ℕ) → is_in draft.live.items k ≡ among s.live k
  pub edits_are : draft.edits ≡ edits

-- what holds whatever the lines were: the limits
pub record IsSoundDraft (draft : Draft) : Type 0 where
  pub clauses : length draft.live.items ≤ max_clauses
  pub literals : draft.literals ≤ max_literals

-- the edit was made, or has the fault
abbrev pub Makes : LiveClauses → List Edit → Edit → Option EditFault → Draft → Type 0
Makes s edits e None next = (edit_fault s e ≡ None) × Tells (after s e) (edits ++ e ∷ []) next
Makes s edits e (Some fault) next = edit_fault s e ≡ Some fault

-- what words write was made, or has the fault, or is no edit
abbrev pub MakesIfAny : LiveClauses → List Edit → Option Edit → Option EditFault → Draft → Type 0
MakesIfAny s edits None fault next = fault ≡ Some NotAnEdit
MakesIfAny s edits (Some e) fault next = Makes s edits e fault next

-- the edit of the line, if it is one
abbrev pub line_edits : LiveClauses → List Word → List Edit
line_edits s words = option_to_list (edit_in s.held.vars words)

-- the line of these words was taken, or has the fault
abbrev pub TakesLine : LiveClauses → List Edit → List Word → Option EditFault → Draft → Type 0
TakesLine s edits words None next = (line_fault s words ≡ None) × Tells (after_all s (line_edits s words)) (edits ++ line_edits s words) next
TakesLine s edits words (Some fault) next = line_fault s words ≡ Some fault

-- THE BYTES SO FAR

-- The lines before the open one have no fault, and the draft says what they led to. However the bytes go on, the open
-- line goes on with them.
pub record StandsInLine (F : Cnf) (fed : List ℕ) (line : ℕ) (open_line : OpenLine) : Type 0 where
  pub before : List (List Word)
  pub count : line ≡ length before + 1
  pub fine : line_faults F before ≡ []
  pub tells : Tells (live_behind F before) (edits_in F.vars before) open_line.draft
  pub goes_on : (more : List ℕ) → word_lines (fed ++ more) ≡ before ++ word_lines (open_line.bytes.items ++ more)

-- however the bytes go on, this is the first fault of their lines
abbrev pub IsFirstFault : Cnf → List ℕ → ℕ → EditFault → Type 0
IsFirstFault F fed line fault = (more : List ℕ) → (others : List (ℕ × EditFault)) × (line_faults F (word_lines (fed ++ more)) ≡ (line, fault) ∷ others)

abbrev pub Stands : Cnf → List ℕ → ℕ → Stage → Type 0
Stands F fed line (Reading open_line) = StandsInLine F fed line open_line
Stands F fed line (Faulty first fault) = IsFirstFault F fed first fault

-- the line of the byte after this one
abbrev pub line_behind : ℕ → ℕ → ℕ
line_behind line b = if is_newline b then line + 1 else line

-- these bytes were read
pub record HasTaken (F : Cnf) (fed : List ℕ) (progress : Progress) : Type 0 where
  pub size : progress.bytes ≡ length fed
  pub few : length fed ≤ max_bytes
  pub line : progress.line ≡ count_by is_newline fed + 1
  pub stands : Stands F fed progress.line progress.stage

-- edits of the formula are read, these bytes were fed, and none of them was refused
abbrev pub HasBeenFed : Cnf → List ℕ → Held → Type 0
HasBeenFed F fed (Going progress) = HasTaken F fed progress
HasBeenFed F fed (Stopped refused) = ⊥

-- what holds whatever was fed: the limits, and that no line end stands in the open line
pub record IsSoundLine (open_line : OpenLine) : Type 0 where
  pub draft : IsSoundDraft open_line.draft
  pub one_line : IsTrue (is_one_line open_line.bytes.items)

abbrev pub IsSoundStage : Stage → Type 0
IsSoundStage (Reading open_line) = IsSoundLine open_line
IsSoundStage (Faulty first fault) = Unit {0}

pub record IsSoundProgress (progress : Progress) : Type 0 where
  pub stage : IsSoundStage progress.stage
  pub few : progress.bytes ≤ max_bytes
  pub line : progress.line ≤ progress.bytes + 1

abbrev pub IsSoundHeld : Held → Type 0
IsSoundHeld (Going progress) = IsSoundProgress progress
IsSoundHeld (Stopped refused) = Unit {0}

-- how many bytes were fed, as long as none was refused
abbrev pub fed_count : Held → ℕ
fed_count (Going progress) = progress.bytes
fed_count (Stopped refused) = 0

-- HOW A TEXT IS REFUSED

-- the refusal is that of the text, or says that memory ran out, which is possible anywhere
abbrev pub IsRefusalOf : Cnf → List ℕ → EditsRefused → Type 0
IsRefusalOf F text (Line line fault) = IsFaultyAt F text line fault
IsRefusalOf F text OutOfMemory = Unit {0}

-- the refusal is such a one however the bytes go on
abbrev pub IsSettledAs : Cnf → List ℕ → EditsRefused → Type 0
IsSettledAs F bytes refused = (more : List ℕ) → IsRefusalOf F (bytes ++ more) refused
