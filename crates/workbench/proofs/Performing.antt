-- How a command's request ends.
use Rattle.std.proofs.Common.{◌≡◌, ℕ, Bool, List, [], ◌∷◌, Option, Some, Ok, Err, refl, sym, subst, inl, inr}
use Rattle.std.specs.Prelude.{IsTrue}
use Rattle.lk_model.specs.Texts.Lines.{Word}
use Rattle.lk_outside.specs.Causes.{HasCause}
use Rattle.command_words.specs.Lawful.{Request}
use Rattle.command_words.specs.Shapes.{inputs_of}
use Rattle.command_words.specs.declared.shape.Grammar.{Grammar}
use Rattle.command_words.specs.declared.shape.Grammar.TheVariants.{Formula}
use Rattle.command_stops.specs.Stops.{IsFailure}
use Rattle.command_inputs.specs.Inputs.{Told, Values, nothing_known, AreRead, StopsReading, StopsOn}
use Rattle.command_stops.specs.declared.stop.Stop.{Stop}
use Rattle.command_stops.specs.declared.stop.Stop.TheVariants as stop
use Rattle.workbench.specs.Endings.{Shelved}
use Rattle.command_endings.specs.Answering.{IsAnswer}
use Rattle.workbench.specs.Performing.{Performs}
use Rattle.status_lines.specs.declared.ending.Ending.{Ending}

-- the stop of the only input, a formula
pub formula_stops : (told : Told) (name : Word) (ailing : Bool) (current : Option (List ℕ)) (s : Stop) → StopsReading Formula nothing_known (told name) ailing s → (s ≡ stop.Read → current ≡ Some name) → StopsOn told nothing_known (Formula ∷ []) (name ∷ []) ailing current s
formula_stops told name ailing current stop.Read h at = inl (h, at refl)
formula_stops told name ailing current stop.Memory h at = tt
formula_stops told name ailing current (stop.Formula r) h at = inl h
formula_stops told name ailing current s h at = absurd h

-- an input is bad, or a call failed
pub stopped : (request : Request) (shelf : Shelved) (s : Stop) → StopsOn shelf.told nothing_known (inputs_of request.command) request.names shelf.ailing shelf.current s
    → HasCause shelf.before shelf.after (s ≡ stop.Read) → (IsTrue shelf.ailing → IsFailure s) → Performs request shelf (Err s)
stopped request shelf s h cause well = record {
  ok = tt;
  stop = h;
  cause = cause;
  well = λ a. inr (well a);
}

-- so of a formula alone
pub formula_stopped : (request : Request) (shelf : Shelved) (name : Word) (s : Stop) → inputs_of request.command ≡ Formula ∷ [] → request.names ≡ name ∷ [] → StopsReading Formula nothing_known (shelf.told name) shelf.ailing s
    → (s ≡ stop.Read → shelf.current ≡ Some name) → HasCause shelf.before shelf.after (s ≡ stop.Read) → (IsTrue shelf.ailing → IsFailure s) → Performs request shelf (Err s)
formula_stopped request shelf name s one named h at =
    stopped request shelf s
    (subst (λ (grammars : List Grammar). StopsOn shelf.told nothing_known grammars request.names shelf.ailing shelf.current s) (sym one)
    (subst (λ (names : List Word). StopsOn shelf.told nothing_known (Formula ∷ []) names shelf.ailing shelf.current s) (sym named) (formula_stops shelf.told name shelf.ailing shelf.current s h at)))

-- memory ran out after the inputs
pub no_memory : (request : Request) (shelf : Shelved) → HasCause shelf.before shelf.after ⊥ → Performs request shelf (Err stop.Memory)
no_memory request shelf cause = record {
  ok = tt;
  stop = tt;
  cause = record { later = cause.later; failed = λ e. absurd (let f : ⊥ = cc e in f) };
  well = λ a. inr tt;
}

-- the inputs were read, and are answered
pub performed : (request : Request) (shelf : Shelved) (values : Values (inputs_of request.command)) (e : Ending) → AreRead shelf.told nothing_known (inputs_of request.command) request.names values
    → IsAnswer request.command request.options values e → HasCause shelf.before shelf.after ⊥ → (IsTrue shelf.ailing → ⊥) → Performs request shelf (Ok e)
performed request shelf values e read answer cause well = record {
  ok = record { values = values; read = read; result = answer.result; answers = answer.answers };
  stop = tt;
  cause = cause;
  well = λ a. absurd (well a);
}
