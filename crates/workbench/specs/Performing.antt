-- What becomes of a request.
use Rattle.std.specs.Prelude.{◌≡◌, ◌⊎◌, [], IfOk, IfErr, IsErrAnd, IsTrue}
use Rattle.std.specs.declared.result.Result.{Result}
use Rattle.lk_outside.specs.Causes.{HasCause}
use Rattle.command_words.specs.Lawful.{Request}
use Rattle.command_words.specs.Shapes.{inputs_of}
use Rattle.command_stops.specs.Stops.{IsFailure}
use Rattle.command_inputs.specs.Inputs.{nothing_known, StopsOn}
use Rattle.command_stops.specs.declared.stop.Stop.{Stop}
use Rattle.command_stops.specs.declared.stop.Stop.TheVariants.{Read}
use Rattle.workbench.specs.Endings.{Shelved, HasResult}
use Rattle.status_lines.specs.declared.ending.Ending.{Ending}

-- It ends as the command may end for what is read; or as its inputs are read, with the first that is bad or with a
-- failed call, which the shelf's count shows, or there was no memory. Where an input is read, the shelf is ailing only
-- then.
pub record Performs (request : Request) (shelf : Shelved) (result : Result Ending Stop) : Type 0 where
  pub ok : IfOk result (λ e. HasResult request shelf.told e.status e.written.items e.said.items)
  pub stop : IfErr result (StopsOn shelf.told nothing_known (inputs_of request.command) request.names shelf.ailing shelf.current)
  pub cause : HasCause shelf.before shelf.after (IsErrAnd result (λ s. s ≡ Read))
  pub well : IsTrue shelf.ailing → (inputs_of request.command ≡ []) ⊎ IsErrAnd result IsFailure
