-- The stops of inputs: of a formula's refusal, and of what comes while bytes are read.
use Rattle.std.proofs.Common.{ℕ, Bool, List, Option, Some, None}
use Rattle.std.specs.Prelude.{IfSome}
use Rattle.std.specs.Io.KnownBytes.{Consumes, IsAtEnd}
use Rattle.dimacs_reader.specs.Faults.{IsRefusalOf, IsSettledAs}
use Rattle.dimacs_reader.specs.declared.refusal.Refused.{Refused}
use Rattle.dimacs_reader.specs.declared.refusal.Refused.TheVariants as refused
use Rattle.command_stops.specs.Stops.{StopsText}
use Rattle.command_inputs.specs.Inputs.{nothing_known, StopsReading}
use Rattle.command_words.specs.declared.shape.Grammar.TheVariants.{Formula as FormulaText}
use Rattle.command_stops.specs.Stops.{stop_of}
use Rattle.command_stops.specs.declared.stop.Stop.{Stop}
use Rattle.command_stops.specs.declared.stop.Stop.TheVariants.{Formula}
use Rattle.command_inputs.proofs.Streams.{at_end, in_midst}

-- what stops the bytes of a text stops a formula
pub stops_reading : (told : Option (List ℕ)) (ailing : Bool) (s : Stop) → StopsText ailing s → StopsReading FormulaText nothing_known told ailing s
stops_reading told ailing (Formula r) h = absurd h
stops_reading told ailing s h = h

-- the stop of a text's refusal
stop_by : (bytes : List ℕ) (ailing : Bool) (r : Refused) → IsRefusalOf bytes r → StopsReading FormulaText nothing_known (Some bytes) ailing (stop_of r)
stop_by bytes ailing refused.OutOfMemory h = tt
stop_by bytes ailing r h = h

-- where nothing is told
stop_untold : (ailing : Bool) (r : Refused) → StopsReading FormulaText nothing_known None ailing (stop_of r)
stop_untold ailing refused.OutOfMemory = tt
stop_untold ailing r = tt

stop_told : (told : Option (List ℕ)) (ailing : Bool) (r : Refused) → IfSome told (λ b. IsRefusalOf b r) → StopsReading FormulaText nothing_known told ailing (stop_of r)
stop_told None ailing r h = stop_untold ailing r
stop_told (Some bytes) ailing r h = stop_by bytes ailing r h

-- a refusal of what was fed up to the end is that of the whole text
pub stops_at_end : (before now : Option (List ℕ)) (fed : List ℕ) (ailing : Bool) (r : Refused) → Consumes before now fed → IsAtEnd now → IsRefusalOf fed r → StopsReading FormulaText nothing_known before ailing (stop_of r)
stops_at_end before now fed ailing r p e h = stop_told before ailing r (at_end (λ b. IsRefusalOf b r) before now fed p e h)

-- a refusal of what was fed that stays, is that of the whole text
pub stops_in_midst : (before now : Option (List ℕ)) (fed : List ℕ) (ailing : Bool) (r : Refused) → Consumes before now fed → IsSettledAs fed r → StopsReading FormulaText nothing_known before ailing (stop_of r)
stops_in_midst before now fed ailing r p h = stop_told before ailing r (in_midst (λ b. IsRefusalOf b r) before now fed p h)
