-- A reader of lines that is fed from a shelf, and how it stops.
use Rattle.std.proofs.Common.{◌≡◌, ℕ, ◌-◌, ◌^◌, ◌<◌, List, ◌++◌, length, Option, Some, None, Result, Ok, Err, IfOk, arith, refl, subst}
use Rattle.std.specs.Prelude.{IfSome, IfErr}
use Rattle.std.specs.Io.KnownBytes.{Consumes, IsAtEnd}
use Rattle.lk_model.specs.declared.verdict.ReadStop.{ReadStop}
use Rattle.line_text.specs.LineReading.{Grammar, IsReadBy, IsAdmitted, IsStopOf}
use Rattle.line_pieces.specs.Fed.{HasBeenFed, fed_count, IsSettledAs}
use Rattle.line_pieces.specs.declared.progress.Held.{Held}
use Rattle.line_pieces.specs.declared.progress.Held.TheVariants.{Going, Stopped}
use Rattle.command_inputs.specs.LineTexts.{IsReadFrom, IsReadAs}
use Rattle.command_inputs.proofs.Streams.{fewer_left, at_end, in_midst}

-- FEEDING

-- how many bytes it was fed
counted : {R V : Type 0} (completes : R → Grammar V) (first : R) (fed : List ℕ) (reader : Held R) → HasBeenFed completes first fed reader → fed_count reader ≡ length fed
counted completes first fed (Going progress) h = h.size
counted completes first fed (Stopped stop) h = absurd h

-- what is left of those that may be fed gets less
pub fewer : {R V : Type 0} (completes : R → Grammar V) (first : R) (fed bytes : List ℕ) (old new : Held R) → HasBeenFed completes first fed old → HasBeenFed completes first (fed ++ bytes) new
    → length (fed ++ bytes) < 2 ^ 63 → 0 < length bytes → 2 ^ 63 - fed_count new < 2 ^ 63 - fed_count old
fewer completes first fed bytes old new h k limit some =
    fewer_left (HasBeenFed completes first) fed_count (2 ^ 63) fed bytes old new (counted completes first) h k (omega (arith, limit)) some

-- THE WHOLE TEXT

-- at the end its value, or its stop, is that of the text
pub read_at_end : {V : Type 0} (Completes : Grammar V) (before now : Option (List ℕ)) (fed : List ℕ) (r : Result V ReadStop) → Consumes before now fed → IsAtEnd now → IfOk r (IsReadBy Completes fed)
    → IfErr r (IsStopOf (IsAdmitted Completes) fed) → IsReadAs Completes before r
read_at_end Completes before now fed (Ok value) p e ok err = record { bytes = fed; read = ok; same = at_end (λ b. fed ≡ b) before now fed p e refl }
read_at_end Completes before now fed (Err stop) p e ok err = at_end (λ b. IsStopOf (IsAdmitted Completes) b stop) before now fed p e err

-- a stop that stays is that of the text
pub stops_in_midst : (Texts : List ℕ → Type 0) (before now : Option (List ℕ)) (fed : List ℕ) (stop : ReadStop) → Consumes before now fed → IsSettledAs Texts fed stop → IfSome before (λ b. IsStopOf Texts b stop)
stops_in_midst Texts before now fed stop p h = in_midst (λ b. IsStopOf Texts b stop) before now fed p h

-- ITS VALUE

-- what holds of a text and its value holds of the one that is told
pub told_value : {V : Type 0} (Completes : Grammar V) (P : List ℕ → V → Type 0) (told : Option (List ℕ)) (value : V) → ((bytes : List ℕ) → IsReadBy Completes bytes value → P bytes value)
    → IsReadFrom Completes told value → IfSome told (λ b. P b value)
told_value Completes P None value each h = tt
told_value Completes P (Some b) value each h = subst (λ (bytes : List ℕ). P bytes value) h.same (each h.bytes h.read)
