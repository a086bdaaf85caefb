-- What a reader holds, by the bytes that it was fed.
use Rattle.std.specs.Prelude.{◌≡◌, ◌≤◌, ◌<◌, ◌⊎◌, ℕ, ◌+◌, List, length, count_by, Result, Ok, Err}
use Rattle.lk_model.specs.Limits.{max_bytes}
use Rattle.lk_model.specs.Texts.Lines.{is_newline}
use Rattle.lk_model.specs.declared.text_fault.Fault.{Fault}
use Rattle.lk_model.specs.declared.text_fault.FaultKind.TheVariants.{TooLong}
use Rattle.dimacs_reader.specs.declared.stop.Stop.{Stop}
use Rattle.dimacs_reader.specs.declared.stop.Stop.TheVariants as stop
use Rattle.dimacs_reader.specs.Stages.{Stands, IsSound}
use Rattle.dimacs_reader.specs.declared.reading.Reading.{Reading}
use Rattle.dimacs_reader.specs.declared.reading.Held.{Held}
use Rattle.dimacs_reader.specs.declared.reading.Held.TheVariants.{Going, Stopped}

-- the fault of a text that is too long
abbrev pub too_long : Fault
too_long = record { kind = TooLong; place = max_bytes + 1 }

-- the fault of a step after `before` bytes, or that the next byte is one too many, where the step goes on or has a
-- fault after it
abbrev pub IsFirstOf : Result (Unit {0}) Stop → ℕ → Fault → Type 0
IsFirstOf (Ok u) before f = (f ≡ too_long) × (max_bytes ≤ before)
IsFirstOf (Err stop.OutOfMemory) before f = ⊥
IsFirstOf (Err (stop.Fault g)) before f = ((f ≡ g) × ((g.place ≤ max_bytes) ⊎ (before < max_bytes))) ⊎ ((f ≡ too_long) × (max_bytes ≤ before) × (max_bytes < g.place))

-- these bytes were read
pub record HasTaken (fed : List ℕ) (reading : Reading) : Type 0 where
  pub size : reading.bytes ≡ length fed
  pub few : length fed ≤ max_bytes
  pub line : reading.line ≡ count_by is_newline fed + 1
  pub stands : Stands fed reading.stage

-- these bytes were fed, and none of them was refused
abbrev pub HasBeenFed : List ℕ → Held → Type 0
HasBeenFed fed (Going reading) = HasTaken fed reading
HasBeenFed fed (Stopped refused) = ⊥

-- what holds whatever was fed: numbers that the code counts on
pub record IsSoundReading (reading : Reading) : Type 0 where
  pub stage : IsSound reading.stage
  pub few : reading.bytes ≤ max_bytes
  pub line : reading.line ≤ reading.bytes + 1

abbrev pub IsSoundHeld : Held → Type 0
IsSoundHeld (Going reading) = IsSoundReading reading
IsSoundHeld (Stopped refused) = Unit {0}

-- how many bytes were fed, as long as none was refused
abbrev pub fed_count : Held → ℕ
fed_count (Going reading) = reading.bytes
fed_count (Stopped refused) = 0
