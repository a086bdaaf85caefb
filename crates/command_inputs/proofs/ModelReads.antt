-- Models: a reader that is fed from a shelf, how it stops, and what is read behind a formula and a document.
use Rattle.std.proofs.Common.{◌≡◌, ℕ, ◌-◌, ◌^◌, ◌<◌, List, [], ◌∷◌, ◌++◌, length, Bool, Option, Some, None, Ok, Err, refl, subst, inl, inr, arith}
use Rattle.std.specs.Prelude.{IfSome}
use Rattle.std.specs.Io.KnownBytes.{Consumes, IsAtEnd}
use Rattle.lk_model.specs.Formulas.Formula.{Cnf}
use Rattle.lk_model.specs.Texts.Lines.{Word}
use Rattle.lk_model.specs.Texts.ModelText.{model_of}
use Rattle.lk_model.specs.declared.document.Document.{Document as AnyDocument}
use Rattle.lk_outside.specs.Causes.{TellsTheSame}
use Rattle.lk_model.specs.declared.verdict.ReadStop.{ReadStop}
use Rattle.lk_model.specs.declared.verdict.ReadStop.TheVariants as read
use Rattle.model_text.specs.ModelTexts.{IsModelRead as IsReadAs, IsModelStop}
use Rattle.model_text.specs.Fed.{HasBeenFed, fed_count, IsSettledAs}
use Rattle.model_text.specs.declared.progress.Held.{Held}
use Rattle.model_text.specs.declared.progress.Held.TheVariants.{Going, Stopped}
use Rattle.command_words.specs.declared.shape.Grammar.{Grammar}
use Rattle.command_words.specs.declared.shape.Grammar.TheVariants.{Formula, Document, Model}
use Rattle.command_stops.specs.Stops.{StopsText}
use Rattle.command_inputs.specs.Inputs.{Told, Known, nothing_known, known_behind, AreRead, IsModelRead, IsFirstBad, IsAilingOn, StopsReading, StopsOn}
use Rattle.command_stops.specs.Stops.{model_stop_of}
use Rattle.command_stops.specs.declared.stop.Stop.{Stop}
use Rattle.command_stops.specs.declared.stop.Stop.TheVariants as stop
use Rattle.command_inputs.proofs.Streams.{fewer_left, at_end, in_midst}

-- FEEDING

-- how many bytes the reader was fed
counted : (n : ℕ) (fed : List ℕ) (reader : Held) → HasBeenFed n fed reader → fed_count reader ≡ length fed
counted n fed (Going progress) h = h.size
counted n fed (Stopped s) h = absurd h

-- what is left of those that may be fed gets less
pub fewer : (n : ℕ) (fed bytes : List ℕ) (old new : Held) → HasBeenFed n fed old → HasBeenFed n (fed ++ bytes) new → length (fed ++ bytes) < 2 ^ 63 → 0 < length bytes
    → 2 ^ 63 - fed_count new < 2 ^ 63 - fed_count old
fewer n fed bytes old new h k limit some = fewer_left (HasBeenFed n) fed_count (2 ^ 63) fed bytes old new (counted n) h k (omega (arith, limit)) some

-- ONE TEXT

-- what the bytes give, the told text gives
model_read : (told : Option (List ℕ)) (bytes : List ℕ) (known : Known) (values : List (Option Bool)) → IfSome told (λ b. bytes ≡ b) → IsReadAs bytes known.vars values → IsModelRead told known values
model_read None bytes known values same r = record { literals = r.literals; text = tt; vars = r.vars; values_are = r.values }
model_read (Some b) bytes known values same r = record { literals = r.literals; text = subst (λ (t : List ℕ). model_of t known.vars ≡ Ok r.literals) same r.text; vars = r.vars; values_are = r.values }

-- the values of what was fed up to the end are those of the text
pub model_at_end : (before now : Option (List ℕ)) (fed : List ℕ) (known : Known) (values : List (Option Bool)) → Consumes before now fed → IsAtEnd now → IsReadAs fed known.vars values → IsModelRead before known values
model_at_end before now fed known values p e r = model_read before fed known values (at_end (λ b. fed ≡ b) before now fed p e refl) r

-- the stop of a text's refusal
stop_by : (known : Known) (told : Option (List ℕ)) (ailing : Bool) (s : ReadStop) → IfSome told (λ b. IsModelStop b known.vars s) → StopsReading Model known told ailing (model_stop_of s)
stop_by known told ailing (read.Line line) h = h
stop_by known told ailing read.OutOfMemory h = tt

-- what refuses what was fed up to the end refuses the text
pub stops_at_end : (known : Known) (before now : Option (List ℕ)) (fed : List ℕ) (ailing : Bool) (s : ReadStop) → Consumes before now fed → IsAtEnd now → IsModelStop fed known.vars s
    → StopsReading Model known before ailing (model_stop_of s)
stops_at_end known before now fed ailing s p e h = stop_by known before ailing s (at_end (λ b. IsModelStop b known.vars s) before now fed p e h)

-- so does what refuses it however it goes on
pub stops_in_midst : (known : Known) (before now : Option (List ℕ)) (fed : List ℕ) (ailing : Bool) (s : ReadStop) → Consumes before now fed → IsSettledAs known.vars fed s
    → StopsReading Model known before ailing (model_stop_of s)
stops_in_midst known before now fed ailing s p h = stop_by known before ailing s (in_midst (λ b. IsModelStop b known.vars s) before now fed p h)

-- what stops the bytes of a text stops a model
pub stops_reading : (known : Known) (told : Option (List ℕ)) (ailing : Bool) (s : Stop) → StopsText ailing s → StopsReading Model known told ailing s
stops_reading known told ailing (stop.Model line) h = absurd h
stops_reading known told ailing s h = h

-- BEHIND OTHER INPUTS

-- what is bad among the first inputs is bad among all
bad_before : (told : Told) (known : Known) (grammars others : List Grammar) (names more : List Word) (s : Stop) → IsFirstBad told known grammars names s → IsFirstBad told known (grammars ++ others) (names ++ more) s
bad_before told known [] others names more s h = absurd h
bad_before told known (grammar ∷ grammars) others [] more s h = absurd h
bad_before told known (grammar ∷ grammars) others (name ∷ names) more s (inl bad) = inl bad
bad_before told known (grammar ∷ grammars) others (name ∷ names) more s (inr later) = inr (later.0, later.1, bad_before told (known_behind grammar known later.0) grammars others names more s later.2)

ailing_before : (told : Told) (known : Known) (grammars others : List Grammar) (names more : List Word) (ailing : Bool) (current : Option (List ℕ)) → IsAilingOn told known grammars names ailing current
    → IsAilingOn told known (grammars ++ others) (names ++ more) ailing current
ailing_before told known [] others names more ailing current h = absurd h
ailing_before told known (grammar ∷ grammars) others [] more ailing current h = absurd h
ailing_before told known (grammar ∷ grammars) others (name ∷ names) more ailing current (inl is) = inl is
ailing_before told known (grammar ∷ grammars) others (name ∷ names) more ailing current (inr later) =
    inr (later.0, later.1, ailing_before told (known_behind grammar known later.0) grammars others names more ailing current later.2)

pub stops_before : (told : Told) (known : Known) (grammars others : List Grammar) (names more : List Word) (ailing : Bool) (current : Option (List ℕ)) (s : Stop) → StopsOn told known grammars names ailing current s
    → StopsOn told known (grammars ++ others) (names ++ more) ailing current s
stops_before told known grammars others names more ailing current stop.Read h = ailing_before told known grammars others names more ailing current h
stops_before told known grammars others names more ailing current stop.Memory h = tt
stops_before told known grammars others names more ailing current s h = bad_before told known grammars others names more s h

-- the bytes that are told later were told before
told_before : (told now : Told) (name : Word) (P : List ℕ → Type 0) → TellsTheSame told now → IfSome (now name) P → IfSome (told name) P
told_before told now name P same h = subst (λ (o : Option (List ℕ)). IfSome o P) (same name) h

-- the values of a model that is read behind them
pub model_behind : (told now : Told) (name : Word) (known : Known) (values : List (Option Bool)) → TellsTheSame told now → IsModelRead (now name) known values → IsModelRead (told name) known values
model_behind told now name known values same r = subst (λ (o : Option (List ℕ)). IsModelRead o known values) (same name) r

-- and its stop
pub stops_behind : (told now : Told) (a b c : Word) (F : Cnf) (d : AnyDocument) (ailing : Bool) (current : Option (List ℕ)) (s : Stop) → TellsTheSame told now
    → AreRead told nothing_known (Formula ∷ Document ∷ []) (a ∷ b ∷ []) (F, (d, tt)) → StopsReading Model F (now c) ailing s → (s ≡ stop.Read → current ≡ Some c)
    → StopsOn told nothing_known (Formula ∷ Document ∷ Model ∷ []) (a ∷ b ∷ c ∷ []) ailing current s
stops_behind told now a b c F d ailing current stop.Read same r h at = inr (F, r.0, inr (d, r.1.0, inl (h, at refl)))
stops_behind told now a b c F d ailing current stop.Memory same r h at = tt
stops_behind told now a b c F d ailing current (stop.Model line) same r h at =
    inr (F, r.0, inr (d, r.1.0, inl (told_before told now c (λ b. model_of b F.vars ≡ Err line) same h)))
stops_behind told now a b c F d ailing current s same r h at = absurd h
