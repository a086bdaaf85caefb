-- Texts that are read line by line: which texts complete what was read, and what becomes of one line more.
use Rattle.std.specs.Prelude.{◌↔◌, ℕ, Bool, true, false, ◌==◌, if◌then◌else◌, List, [], ◌∷◌, ◌++◌, IsTrue, Option, Some, None}
use Rattle.std.specs.List.{list_all}
use Rattle.lk_model.specs.Lists.{is_empty}
use Rattle.lk_model.specs.Documents.Reading.{cut_lines, StopsAs}
use Rattle.lk_model.specs.declared.verdict.ReadStop.{ReadStop}
use Rattle.lk_model.specs.declared.verdict.ReadStop.TheVariants.{Line, OutOfMemory}

-- TEXTS OF WHOLE LINES

-- one byte 10, at the end
abbrev pub is_whole_line : List ℕ → Bool
is_whole_line [] = false
is_whole_line (b ∷ bs) = if b == 10 then is_empty bs else is_whole_line bs

abbrev pub are_whole_lines : List (List ℕ) → Bool
are_whole_lines lines = list_all is_whole_line lines

-- What may complete the lines that were read: for a value, the lines after them in a text of that value. Each line has
-- its byte 10.
abbrev pub Grammar : Type 0 → Type 1
Grammar V = V → List (List ℕ) → Type 0

-- the text is whole lines, and these are a text of the value
pub record IsReadBy {V : Type 0} (Completes : Grammar V) (bytes : List ℕ) (value : V) : Type 0 where
  pub whole : IsTrue (are_whole_lines (cut_lines bytes))
  pub lines : Completes value (cut_lines bytes)

-- the text is one of some value
abbrev pub IsAdmitted : {V : Type 0} → Grammar V → List ℕ → Type 0
IsAdmitted {V} Completes bytes = (value : V) × IsReadBy Completes bytes value

-- some text completes what was read
abbrev pub CanComplete : {V : Type 0} → Grammar V → Type 0
CanComplete Completes = (bytes : List ℕ) × IsAdmitted Completes bytes

-- ONE LINE MORE

-- What completes the lines after this one, after it completes what was read, and something does.
pub record LeadsOn {V : Type 0} (Before After : Grammar V) (line : List ℕ) : Type 0 where
  pub same : (value : V) (more : List (List ℕ)) → After value more ↔ Before value (line ∷ more)
  pub completed : CanComplete After

-- nothing that completes what was read begins with the line
abbrev pub LeadsNowhere : {V : Type 0} → Grammar V → List ℕ → Type 0
LeadsNowhere {V} Before line = (value : V) (more : List (List ℕ)) → Before value (line ∷ more) → ⊥

-- the line was taken, or may not come next
abbrev pub TakesLine : {V : Type 0} → Grammar V → Grammar V → List ℕ → Bool → Type 0
TakesLine Before After line true = LeadsOn Before After (line ++ 10 ∷ [])
TakesLine Before After line false = LeadsNowhere Before (line ++ 10 ∷ [])

-- THE END

-- no line more is a text of the value, or of none
abbrev pub EndsWith : {V : Type 0} → Grammar V → Option V → Type 0
EndsWith Completes (Some value) = Completes value []
EndsWith {V} Completes None = (value : V) → Completes value [] → ⊥

-- the stop is at the first line with which no such text begins; memory may run out anywhere
abbrev pub IsStopOf : (List ℕ → Type 0) → List ℕ → ReadStop → Type 0
IsStopOf Texts bytes (Line line) = StopsAs Texts bytes line
IsStopOf Texts bytes OutOfMemory = Unit {0}
