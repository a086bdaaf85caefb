-- The stops that the readers make, and what they say of the shelf.
use Rattle.std.specs.Prelude.{Bool, IsTrue, ⊤}
use Rattle.lk_outside.specs.declared.shelf.StartStop.{StartStop}
use Rattle.lk_outside.specs.declared.shelf.StartStop.TheVariants as start
use Rattle.lk_model.specs.declared.verdict.ReadStop.{ReadStop}
use Rattle.lk_model.specs.declared.verdict.ReadStop.TheVariants as read
use Rattle.dimacs_reader.specs.declared.refusal.Refused.{Refused}
use Rattle.dimacs_reader.specs.declared.refusal.Refused.TheVariants as refused
use Rattle.edit_text.specs.declared.refusal.EditsRefused.{EditsRefused}
use Rattle.edit_text.specs.declared.refusal.EditsRefused.TheVariants as edits
use Rattle.command_stops.specs.declared.stop.Stop.{Stop}
use Rattle.command_stops.specs.declared.stop.Stop.TheVariants.{Formula, Document, Model, Answer, Edits, Read, Memory}

-- the stop that a refusal of the reader makes
abbrev pub stop_of : Refused → Stop
stop_of refused.OutOfMemory = Memory
stop_of refusal = Formula refusal

-- the stop that a refused start makes
abbrev pub start_stop_of : StartStop → Stop
start_stop_of start.Failed = Read
start_stop_of start.OutOfMemory = Memory

-- the stop that a text makes that is no document's
abbrev pub read_stop_of : ReadStop → Stop
read_stop_of (read.Line line) = Document line
read_stop_of read.OutOfMemory = Memory

-- the stop that a text makes that is no model's
abbrev pub model_stop_of : ReadStop → Stop
model_stop_of (read.Line line) = Model line
model_stop_of read.OutOfMemory = Memory

-- the stop that a text makes that is no answer's
abbrev pub answer_stop_of : ReadStop → Stop
answer_stop_of (read.Line line) = Answer line
answer_stop_of read.OutOfMemory = Memory

-- the stop that a text makes that is none of edits
abbrev pub edits_stop_of : EditsRefused → Stop
edits_stop_of (edits.Line line fault) = Edits line fault
edits_stop_of edits.OutOfMemory = Memory

-- while bytes are read, nothing is refused
abbrev pub StopsText : Bool → Stop → Type 0
StopsText ailing Read = IsTrue ailing
StopsText ailing Memory = ⊤
StopsText ailing _ = ⊥

-- the stop reports a failed call, or that memory ran out
abbrev pub IsFailure : Stop → Type 0
IsFailure Read = ⊤
IsFailure Memory = ⊤
IsFailure _ = ⊥
