-- What a reader of models holds, by the bytes that it was fed.
use Rattle.std.specs.Prelude.{◌≡◌, ◌≤◌, ◌<◌, ◌^◌, ℕ, List, ◌++◌, length, flat_map, IsTrue}
use Rattle.std.specs.List.{list_all}
use Rattle.lk_model.specs.Texts.Lines.{Word}
use Rattle.lk_model.specs.Texts.ModelText.{is_model_line, line_numbers, word_lines}
use Rattle.lk_model.specs.declared.verdict.ReadStop.{ReadStop}
use Rattle.lk_text.specs.Cutting.{is_one_line}
use Rattle.model_text.specs.ModelTexts.{Gives, IsModelStop}
use Rattle.model_text.specs.declared.reading.ModelDraft.{ModelDraft}
use Rattle.model_text.specs.declared.progress.Progress.{Progress}
use Rattle.model_text.specs.declared.progress.Held.{Held}
use Rattle.model_text.specs.declared.progress.Held.TheVariants.{Going, Stopped}

-- THE BYTES SO FAR

-- the lines are a model text, and gave these values
pub record AreRead (n : ℕ) (lines : List (List Word)) (draft : ModelDraft) : Type 0 where
  pub lawful : IsTrue (list_all (is_model_line n) lines)
  pub gives : Gives (flat_map line_numbers lines) draft

-- this many lines ended and were read; however the bytes go on, the open line goes on with them
pub record StandsAt (n : ℕ) (fed unended : List ℕ) (lines : ℕ) (draft : ModelDraft) : Type 0 where
  pub before : List (List Word)
  pub count : lines ≡ length before
  pub read : AreRead n before draft
  pub goes_on : (more : List ℕ) → word_lines (fed ++ more) ≡ before ++ word_lines (unended ++ more)

-- these bytes were read, of a model of n variables
pub record HasTaken (n : ℕ) (fed : List ℕ) (progress : Progress) : Type 0 where
  pub size : progress.bytes ≡ length fed
  pub vars : length progress.draft.values ≡ n
  pub stands : StandsAt n fed progress.unended.items progress.lines progress.draft

-- a model of n variables is read, these bytes were fed, and none of their lines was refused
abbrev pub HasBeenFed : ℕ → List ℕ → Held → Type 0
HasBeenFed n fed (Going progress) = HasTaken n fed progress
HasBeenFed n fed (Stopped stop) = ⊥

-- WHATEVER WAS FED

-- no line end stands in the open line, and no more bytes were read than memory could hold
pub record IsSound (progress : Progress) : Type 0 where
  pub one_line : IsTrue (is_one_line progress.unended.items)
  pub few : progress.lines ≤ progress.bytes
  pub limit : progress.bytes < 2 ^ 63

abbrev pub IsSoundHeld : Held → Type 0
IsSoundHeld (Going progress) = IsSound progress
IsSoundHeld (Stopped stop) = Unit {0}

-- how many bytes were fed, as long as no line was refused
abbrev pub fed_count : Held → ℕ
fed_count (Going progress) = progress.bytes
fed_count (Stopped stop) = 0

-- HOW A TEXT IS REFUSED

-- the stop is that of the text, however its bytes go on
abbrev pub IsSettledAs : ℕ → List ℕ → ReadStop → Type 0
IsSettledAs n bytes stop = (more : List ℕ) → IsModelStop (bytes ++ more) n stop
