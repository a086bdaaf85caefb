-- What a reader holds, by the bytes that it was fed.
use Rattle.std.specs.Prelude.{◌≡◌, ◌≤◌, ◌<◌, ◌↔◌, ◌^◌, ℕ, ◌+◌, List, [], ◌∷◌, ◌++◌, length, IsTrue}
use Rattle.std.specs.List.{concat}
use Rattle.lk_model.specs.declared.verdict.ReadStop.{ReadStop}
use Rattle.lk_model.specs.declared.verdict.ReadStop.TheVariants as read
use Rattle.lk_text.specs.Cutting.{is_one_line}
use Rattle.line_text.specs.LineReading.{are_whole_lines, Grammar, CanComplete, LeadsOn, LeadsNowhere, IsAdmitted, IsStopOf}
use Rattle.line_pieces.specs.declared.progress.Progress.{Progress}
use Rattle.line_pieces.specs.declared.progress.Held.{Held}
use Rattle.line_pieces.specs.declared.progress.Held.TheVariants.{Going, Stopped}

-- THE BYTES SO FAR

-- The bytes are the lines that were taken, and those of the open line. The lines led from what the reader was to what it is now.
pub record StandsAt {V : Type 0} (Start Now : Grammar V) (fed unended : List ℕ) (lines : ℕ) : Type 0 where
  pub taken : List (List ℕ)
  pub whole : IsTrue (are_whole_lines taken)
  pub bytes : fed ≡ concat taken ++ unended
  pub count : length taken ≡ lines
  pub same : (value : V) (more : List (List ℕ)) → Now value more ↔ Start value (taken ++ more)
  pub completed : CanComplete Now

abbrev pub Stands : {R V : Type 0} → (R → Grammar V) → R → List ℕ → Progress R → Type 0
Stands completes first fed progress = StandsAt (completes first) (completes progress.reader) fed progress.unended.items progress.lines

-- a reader that was this at first has read these bytes
pub record HasTaken {R V : Type 0} (completes : R → Grammar V) (first : R) (fed : List ℕ) (progress : Progress R) : Type 0 where
  pub size : progress.bytes ≡ length fed
  pub stands : Stands completes first fed progress

-- a reader of lines that was this at first was fed these bytes, and none of their lines was refused
abbrev pub HasBeenFed : {R V : Type 0} → (R → Grammar V) → R → List ℕ → Held R → Type 0
HasBeenFed completes first fed (Going progress) = HasTaken completes first fed progress
HasBeenFed completes first fed (Stopped stop) = ⊥

-- WHATEVER WAS FED

-- the reader may read on, and no line end stands in the open line
pub record IsSound {R : Type 0} (fits : R → Type 0) (count : R → ℕ) (progress : Progress R) : Type 0 where
  pub ready : fits progress.reader
  pub read : count progress.reader ≡ progress.lines
  pub one_line : IsTrue (is_one_line progress.unended.items)
  pub few : progress.lines ≤ progress.bytes
  pub limit : progress.bytes < 2 ^ 63

abbrev pub IsSoundHeld : {R : Type 0} → (R → Type 0) → (R → ℕ) → Held R → Type 0
IsSoundHeld fits count (Going progress) = IsSound fits count progress
IsSoundHeld fits count (Stopped stop) = Unit {0}

-- how many bytes were fed, as long as no line was refused
abbrev pub fed_count : {R : Type 0} → Held R → ℕ
fed_count (Going progress) = progress.bytes
fed_count (Stopped stop) = 0

-- ONE PIECE

-- whatever was read before, these bytes were read after it
abbrev pub Extends : {R V : Type 0} → (R → Grammar V) → Progress R → Progress R → List ℕ → Type 0
Extends {R} completes before after piece = (first : R) (fed : List ℕ) → Stands completes first fed before → Stands completes first (fed ++ piece) after

-- the stop is that of the text, however its bytes go on
abbrev pub IsSettledAs : (List ℕ → Type 0) → List ℕ → ReadStop → Type 0
IsSettledAs Texts fed stop = (more : List ℕ) → IsStopOf Texts (fed ++ more) stop

-- whatever was read before, the stop is that of the text with these bytes, however it goes on
abbrev pub Refuses : {R V : Type 0} → (R → Grammar V) → Progress R → List ℕ → ReadStop → Type 0
Refuses {R} completes before piece stop = (first : R) (fed : List ℕ) → Stands completes first fed before → IsSettledAs (IsAdmitted (completes first)) (fed ++ piece) stop

-- ONE LINE

-- the open line, ended by these bytes, led on
abbrev pub EndsLine : {R V : Type 0} → (R → Grammar V) → Progress R → Progress R → List ℕ → Type 0
EndsLine completes before after rest = LeadsOn (completes before.reader) (completes after.reader) ((before.unended.items ++ rest) ++ 10 ∷ [])

-- the open line, ended by these bytes, leads nowhere, and the stop is at its number; memory may run out anywhere
abbrev pub RefusesLine : {R V : Type 0} → (R → Grammar V) → Progress R → List ℕ → ReadStop → Type 0
RefusesLine completes before rest (read.Line line) =
    (line ≡ before.lines + 1) × LeadsNowhere (completes before.reader) ((before.unended.items ++ rest) ++ 10 ∷ [])
RefusesLine completes before rest read.OutOfMemory = Unit {0}
