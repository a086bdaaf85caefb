-- How a text is refused.
use Rattle.std.specs.Prelude.{◌≡◌, ℕ, Bool, true, false, ◌&&◌, ◌||◌, List, ◌++◌, length, Option, Some, option_map, nat_lt, nat_le}
use Rattle.lk_model.specs.Texts.Fault.{faults, least, fault_of}
use Rattle.lk_model.specs.declared.text_fault.Fault.{Fault}
use Rattle.lk_model.specs.declared.text_fault.FaultKind.{FaultKind}
use Rattle.lk_model.specs.declared.text_fault.FaultKind.TheVariants as kind
use Rattle.dimacs_reader.specs.declared.stop.Stop.{Stop}
use Rattle.dimacs_reader.specs.declared.stop.Stop.TheVariants as stop
use Rattle.dimacs_reader.specs.declared.refusal.Refused.{Refused}
use Rattle.dimacs_reader.specs.declared.refusal.Refused.TheVariants as refused

-- the refusal of a kind at a line
abbrev pub refusal_by : FaultKind × ℕ → Refused
refusal_by (kind.NoHeader, line) = refused.NoHeader line
refusal_by (kind.BadHeader, line) = refused.BadHeader line
refusal_by (kind.SecondHeader, line) = refused.SecondHeader line
refusal_by (kind.BadToken, line) = refused.BadToken line
refusal_by (kind.BeyondStated, line) = refused.BeyondStated line
refusal_by (kind.TooManyClauses, line) = refused.TooManyClauses line
refusal_by (kind.TooFewClauses, line) = refused.TooFewClauses line
refusal_by (kind.Limit, line) = refused.Limit line
refusal_by (kind.TooLong, line) = refused.TooLong line

-- the refusal at a stop, whose fault is in a line
abbrev pub refusal_at : ℕ → Stop → Refused
refusal_at line (stop.Fault fault) = refusal_by (fault.kind, line)
refusal_at line stop.OutOfMemory = refused.OutOfMemory

-- what a text is refused with: its first fault, with its line
abbrev pub refusal_of : List ℕ → Option Refused
refusal_of text = option_map refusal_by (fault_of text)

-- the refusal is that of the text, or says that memory ran out, which is possible anywhere
abbrev pub IsRefusalOf : List ℕ → Refused → Type 0
IsRefusalOf text refused.OutOfMemory = Unit {0}
IsRefusalOf text refusal = refusal_of text ≡ Some refusal

-- the refusal is such a one however the bytes go on
abbrev pub IsSettledAs : List ℕ → Refused → Type 0
IsSettledAs bytes refusal = (more : List ℕ) → IsRefusalOf (bytes ++ more) refusal

-- what is said of the fault at which reading stops; memory may run out anywhere
abbrev pub ForFault : Stop → (Fault → Type 0) → Type 0
ForFault (stop.Fault fault) P = P fault
ForFault stop.OutOfMemory P = Unit {0}

-- the first fault of a text
abbrev pub first_fault_of : List ℕ → Option Fault
first_fault_of text = least (faults text)

-- A fault of a word, or of a problem line, is reported when a byte after it shows that it has ended. Another fault
-- shows at its own byte: the first one of a line, an end mark, or the one that is too many.
abbrev pub shows_at_once : FaultKind → Bool
shows_at_once kind.NoHeader = true
shows_at_once kind.BadHeader = false
shows_at_once kind.SecondHeader = true
shows_at_once kind.BadToken = false
shows_at_once kind.BeyondStated = false
shows_at_once kind.TooManyClauses = false
shows_at_once kind.TooFewClauses = true
shows_at_once kind.Limit = false
shows_at_once kind.TooLong = true

-- the fault must have been reported when `size` bytes were fed
abbrev pub is_due : ℕ → Fault → Bool
is_due size fault = nat_lt fault.place size || (shows_at_once fault.kind && nat_le fault.place size)

-- no fault of these bytes must have been reported
abbrev pub HasNoneDue : List ℕ → Type 0
HasNoneDue fed = (f : Fault) → first_fault_of fed ≡ Some f → is_due (length fed) f ≡ false
