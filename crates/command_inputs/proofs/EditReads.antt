-- Edits that are read behind a formula: a reader that is fed from a shelf, and how it stops.
use Rattle.std.proofs.Common.{◌≡◌, ℕ, ◌-◌, ◌^◌, ◌<◌, ◌≤◌, Bool, List, ◌++◌, length, Option}
use Rattle.std.specs.Io.KnownBytes.{Consumes, IsAtEnd}
use Rattle.lk_model.specs.Formulas.Formula.{Cnf}
use Rattle.edit_text.specs.Fed.{HasBeenFed, fed_count, IsRefusalOf, IsSettledAs}
use Rattle.edit_text.specs.EditText.{IsEdits}
use Rattle.edit_text.specs.declared.edit.Edit.{Edit}
use Rattle.edit_text.specs.declared.progress.Held.{Held}
use Rattle.edit_text.specs.declared.progress.Held.TheVariants.{Going, Stopped}
use Rattle.edit_text.specs.declared.refusal.EditsRefused.{EditsRefused}
use Rattle.edit_text.specs.declared.refusal.EditsRefused.TheVariants as refused
use Rattle.std.specs.Prelude.{IfSome}
use Rattle.command_stops.specs.Stops.{StopsText}
use Rattle.command_inputs.specs.Inputs.{StopsReading}
use Rattle.command_words.specs.declared.shape.Grammar.TheVariants.{Edits as EditsText}
use Rattle.command_stops.specs.Stops.{edits_stop_of}
use Rattle.command_stops.specs.declared.stop.Stop.{Stop}
use Rattle.command_stops.specs.declared.stop.Stop.TheVariants.{Edits}
use Rattle.command_inputs.proofs.Streams.{fewer_left, at_end, in_midst}

-- FEEDING

-- how many bytes the reader was fed
counted : (F : Cnf) (fed : List ℕ) (reader : Held) → HasBeenFed F fed reader → fed_count reader ≡ length fed
counted F fed (Going progress) h = h.size
counted F fed (Stopped r) h = absurd h

-- what is left of those that may be fed gets less
pub fewer : (F : Cnf) (fed bytes : List ℕ) (old new : Held) → HasBeenFed F fed old → HasBeenFed F (fed ++ bytes) new → 0 < length bytes → 2 ^ 30 - fed_count new < 2 ^ 30 - fed_count old
fewer F fed bytes old new h k some = fewer_left (HasBeenFed F) fed_count (2 ^ 30) fed bytes old new (counted F) h k (within (fed ++ bytes) new k) some
  where
    within : (all : List ℕ) (held : Held) → HasBeenFed F all held → length all ≤ 2 ^ 30
    within all (Going progress) b = b.few
    within all (Stopped r) b = absurd b

-- the edits of what was fed, up to the end, are those of the whole text
pub edits_at_end : (F : Cnf) (before now : Option (List ℕ)) (fed : List ℕ) (edits : List Edit) → Consumes before now fed → IsAtEnd now → IsEdits F edits fed → IfSome before (IsEdits F edits)
edits_at_end F before now fed edits p e h = at_end (IsEdits F edits) before now fed p e h

-- STOPS

-- what stops the bytes of a text stops edits
pub stops_reading : (F : Cnf) (told : Option (List ℕ)) (ailing : Bool) (s : Stop) → StopsText ailing s → StopsReading EditsText F told ailing s
stops_reading F told ailing (Edits line fault) h = absurd h
stops_reading F told ailing s h = h

-- the stop of a text's refusal
stop_by : (F : Cnf) (told : Option (List ℕ)) (ailing : Bool) (r : EditsRefused) → IfSome told (λ b. IsRefusalOf F b r) → StopsReading EditsText F told ailing (edits_stop_of r)
stop_by F told ailing refused.OutOfMemory h = tt
stop_by F told ailing (refused.Line line fault) h = h

-- a refusal of what was fed up to the end is that of the whole text
pub stops_at_end : (F : Cnf) (before now : Option (List ℕ)) (fed : List ℕ) (ailing : Bool) (r : EditsRefused) → Consumes before now fed → IsAtEnd now → IsRefusalOf F fed r → StopsReading EditsText F before ailing (edits_stop_of r)
stops_at_end F before now fed ailing r p e h = stop_by F before ailing r (at_end (λ b. IsRefusalOf F b r) before now fed p e h)

-- a refusal of what was fed that stays, is that of the whole text
pub stops_in_midst : (F : Cnf) (before now : Option (List ℕ)) (fed : List ℕ) (ailing : Bool) (r : EditsRefused) → Consumes before now fed → IsSettledAs F fed r → StopsReading EditsText F before ailing (edits_stop_of r)
stops_in_midst F before now fed ailing r p h = stop_by F before ailing r (in_midst (λ b. IsRefusalOf F b r) before now fed p h)
