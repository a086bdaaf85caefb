-- How a run of the program ends.
use Rattle.std.specs.Prelude.{◌≡◌, ◌⊎◌, ℕ, ◌<◌, List, [], Bool, length, take, IsTrue, Some, None, ⊤}
use Rattle.std.specs.declared.option.Option.{Option}
use Rattle.std.specs.Io.KnownBytes.{Appends}
use Rattle.lk_model.specs.Texts.Lines.{Word}
use Rattle.lk_outside.specs.Causes.{Rose}
use Rattle.command_words.specs.Shapes.{inputs_of}
use Rattle.command_endings.specs.Commands.{Answers, Decides}
use Rattle.command_inputs.specs.Inputs.{nothing_known, Told, Values, AreRead, AreTold, IsFirstBad, HasBad, StopsOn, IsAilingOn}
use Rattle.command_words.specs.Lawful.{Request, request_of, IsRefusedAt}
use Rattle.status_lines.specs.Statuses.{code, is_result}
use Rattle.status_lines.specs.StopLines.{Tells}
use Rattle.status_lines.specs.declared.status.Status.{Status}
use Rattle.status_lines.specs.declared.status.Status.TheVariants as status
use Rattle.command_stops.specs.declared.stop.Stop.{Stop}
use Rattle.command_stops.specs.declared.stop.Stop.TheVariants as stop

-- WHICH ENDINGS ARE ALLOWED

-- The shelf over a run: the bytes that it tells, its count of faults before the run and after it, and whether it is ailing
-- in the end, on which name.
pub record Shelved : Type 0 where
  pub told : Told
  pub before : ℕ
  pub after : ℕ
  pub ailing : Bool
  pub current : Option (List ℕ)

abbrev pub shelved : Told → ℕ → ℕ → Bool → Option (List ℕ) → Shelved
shelved told before after ailing current = record { told = told; before = before; after = after; ailing = ailing; current = current }

-- what was read of the inputs, as far as they are visible, and that the command may end so for it
pub record HasResult (request : Request) (told : Told) (status : Status) (written said : List ℕ) : Type 0 where
  pub values : Values (inputs_of request.command)
  pub read : AreRead told nothing_known (inputs_of request.command) request.names values
  pub result : IsTrue (is_result status)
  pub answers : Answers request.command request.options values status written said

abbrev pub IsResult : Option Request → Told → Status → List ℕ → List ℕ → Type 0
IsResult None told status written said = ⊥
IsResult (Some request) told status written said = HasResult request told status written said

-- the first input, in the order of the words, that is outside its grammar makes this stop
abbrev pub DeservesStop : Option Request → Told → Stop → Type 0
DeservesStop None told s = ⊥
DeservesStop (Some request) told s = IsFirstBad told nothing_known (inputs_of request.command) request.names s

-- a call on the shelf failed: its count rose, and it is ailing on an input, those before which are read
abbrev pub HasReadFault : Option Request → Shelved → Type 0
HasReadFault None shelf = ⊥
HasReadFault (Some request) shelf = Rose shelf.before shelf.after
    × IsAilingOn shelf.told nothing_known (inputs_of request.command) request.names shelf.ailing shelf.current

-- no input is read: the words are not lawful, or the command has none
abbrev pub ReadsNothing : Option Request → Type 0
ReadsNothing None = ⊤
ReadsNothing (Some request) = inputs_of request.command ≡ []

-- A status other than that of a failed call and of memory that ran out: where an input is read, the last call did not
-- fail.
abbrev pub IsWell : Status → Option Request → Bool → Type 0
IsWell status.ReadFault o ailing = ⊤
IsWell status.Memory o ailing = ⊤
IsWell answer o ailing = IsTrue ailing → ReadsNothing o

-- With this status the one text may be written and the other said: of the refused word, the refusal of an input, a
-- failed read, or memory that ran out; or else those with which the command may end.
abbrev pub Allows : List Word → Shelved → Status → List ℕ → List ℕ → Type 0
Allows words shelf status.Words written said = (i : ℕ) × IsRefusedAt words i × Tells (stop.Words i) written said
Allows words shelf status.Input written said = (s : Stop) × DeservesStop (request_of words) shelf.told s × Tells s written said
Allows words shelf status.ReadFault written said = HasReadFault (request_of words) shelf × Tells stop.Read written said
Allows words shelf status.WriteFault written said = ⊥
Allows words shelf status.Memory written said = Tells stop.Memory written said
Allows words shelf answer written said = IsResult (request_of words) shelf.told answer written said

-- WHAT STANDS ON THE SINKS

-- a sink over a run: its bytes, where it tells them, and its count of faults, before the run and after it
pub record Sunk : Type 0 where
  pub before : Option (List ℕ)
  pub after : Option (List ℕ)
  pub faults_before : ℕ
  pub faults_after : ℕ

abbrev pub sunk : Option (List ℕ) → Option (List ℕ) → ℕ → ℕ → Sunk
sunk before after faults_before faults_after = record { before = before; after = after; faults_before = faults_before; faults_after = faults_after }

-- the sink took the text; where that is empty it is as it was
pub record Takes (sink : Sunk) (text : List ℕ) : Type 0 where
  pub taken : Appends sink.before sink.after text
  pub same : text ≡ [] → sink.after ≡ sink.before

-- the sink failed before it took the whole text
pub record IsCut (sink : Sunk) (text : List ℕ) : Type 0 where
  pub count : ℕ
  pub part : count < length text
  pub taken : Appends sink.before sink.after (take count text)
  pub rose : Rose sink.faults_before sink.faults_after

-- the one took the one text, and the other the other
abbrev pub TakesBoth : Sunk → Sunk → List ℕ → List ℕ → Type 0
TakesBoth out say written said = Takes out written × Takes say said

-- one of them failed in its text: the first, and the other is as it was before, its bytes and as a whole; or the second
-- after the whole of the first text
abbrev pub IsCutIn : Sunk → Sunk → List ℕ → List ℕ → Type 0 → Type 0
IsCutIn out say written said SayIsSame =
    (IsCut out written × (say.after ≡ say.before) × SayIsSame) ⊎ (Takes out written × IsCut say said)

-- an allowed ending whose texts the sinks took; with statuses but 3 and 9 the shelf is ailing only if nothing is read
pub record Ends (words : List Word) (shelf : Shelved) (out say : Sunk) (answer : ℕ) : Type 0 where
  pub status : Status
  pub written : List ℕ
  pub said : List ℕ
  pub allowed : Allows words shelf status written said
  pub well : IsWell status (request_of words) shelf.ailing
  pub answer_is : answer ≡ code status
  pub taken : TakesBoth out say written said

-- `Ends`, and a text that is empty leaves its sink as a whole as it was: the two facts say that `out` is, and `say`
pub record EndsQuietly (words : List Word) (shelf : Shelved) (out say : Sunk) (answer : ℕ) (OutIsSame SayIsSame : Type 0) : Type 0 where
  pub ending : Ends words shelf out say answer
  pub out_unused : ending.written ≡ [] → OutIsSame
  pub say_unused : ending.said ≡ [] → SayIsSame

-- an allowed ending in whose texts a sink failed; with the same two facts, where nothing is written, and before anything is said
pub record IsCutOff (words : List Word) (shelf : Shelved) (out say : Sunk) (OutIsSame SayIsSame : Type 0) : Type 0 where
  pub status : Status
  pub written : List ℕ
  pub said : List ℕ
  pub allowed : Allows words shelf status written said
  pub well : IsWell status (request_of words) shelf.ailing
  pub cut : IsCutIn out say written said SayIsSame
  pub out_unused : written ≡ [] → OutIsSame

-- WHAT IS DECIDED BEFOREHAND

-- the inputs are visible and read, and decide the status
pub record HasValues (request : Request) (told : Told) (status : Status) : Type 0 where
  pub told_all : AreTold told request.names
  pub values : Values (inputs_of request.command)
  pub read : AreRead told nothing_known (inputs_of request.command) request.names values
  pub decides : Decides request.command request.options values status

abbrev pub IsDecidedFor : Request → Told → Status → Type 0
IsDecidedFor request told status.Input = HasBad told nothing_known (inputs_of request.command) request.names
IsDecidedFor request told answer = HasValues request told answer

-- the words and the visible inputs decide the status: unlawful words, an input outside its grammar, or what the command
-- makes of what is read
abbrev pub IsDecided : Option Request → Told → Status → Type 0
IsDecided None told answer = answer ≡ status.Words
IsDecided (Some request) told answer = IsDecidedFor request told answer

-- The run ends with this status, unless a call or memory failed: then with 3, and what shows that the shelf failed, or
-- with 4, and what shows that a sink did, or with 9.
abbrev pub IsUnlessFailed : ℕ → Status → Type 0 → Type 0 → Type 0
IsUnlessFailed answer decided ShelfFailed SinkFailed =
    (answer ≡ code decided)
    ⊎ ((answer ≡ code status.ReadFault) × ShelfFailed)
    ⊎ ((answer ≡ code status.WriteFault) × SinkFailed)
    ⊎ (answer ≡ code status.Memory)

-- WHAT A STOP SHOWS

-- the stop is one that is met as the inputs are read
abbrev pub StopsAsRead : Option Request → Told → Bool → Option (List ℕ) → Stop → Type 0
StopsAsRead None told ailing current s = ⊥
StopsAsRead (Some request) told ailing current s = StopsOn told nothing_known (inputs_of request.command) request.names ailing current s

-- the refused word, or what was met as the inputs were read
abbrev pub StopsAt : List Word → Told → Bool → Option (List ℕ) → Stop → Type 0
StopsAt words told ailing current (stop.Words i) = IsRefusedAt words i
StopsAt words told ailing current s = StopsAsRead (request_of words) told ailing current s
