-- Which endings are allowed for what was read.
use Rattle.std.specs.Prelude.{IsTrue}
use Rattle.command_words.specs.Settings.{Options}
use Rattle.command_words.specs.Shapes.{inputs_of}
use Rattle.command_words.specs.declared.command.Command.{Command}
use Rattle.command_inputs.specs.Inputs.{Values}
use Rattle.command_endings.specs.Commands.{Answers}
use Rattle.status_lines.specs.Statuses.{is_result}
use Rattle.status_lines.specs.declared.ending.Ending.{Ending}

-- with these options the command may end so for these inputs
pub record IsAnswer (command : Command) (options : Options) (values : Values (inputs_of command)) (e : Ending) : Type 0 where
  pub result : IsTrue (is_result e.status)
  pub answers : Answers command options values e.status e.written.items e.said.items
