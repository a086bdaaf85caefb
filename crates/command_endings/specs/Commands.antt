-- The commands: how each may end.
use Rattle.std.specs.Prelude.{ℕ, List}
use Rattle.lk_model.specs.Reduction.{WritesReduction}
use Rattle.lk_model.specs.declared.class.Class.TheVariants.{Pure, Matching}
use Rattle.command_words.specs.Settings.{Options}
use Rattle.command_words.specs.Shapes.{inputs_of}
use Rattle.command_words.specs.declared.command.Command.{Command}
use Rattle.command_words.specs.declared.command.Command.TheVariants as command
use Rattle.command_inputs.specs.Inputs.{Values}
use Rattle.edit_text.specs.Edits.{states}
use Rattle.edit_text.specs.LiveClauses.{live_of}
use Rattle.status_lines.specs.declared.status.Status.{Status}
pub mod ReduceLinear
pub mod ReduceGeneral
pub mod Check
pub mod Extend
pub mod Report
pub mod Demo
pub mod Solve
pub mod Verify
pub mod Deficiency
pub mod Edits
pub mod Mus
use Rattle.command_endings.specs.EndsDone.{EndsDone, IsDone}
use Rattle.command_endings.specs.Commands.ReduceLinear as linear
use Rattle.command_endings.specs.Commands.ReduceGeneral as general
use Rattle.command_endings.specs.Commands.Check as check
use Rattle.command_endings.specs.Commands.Extend as extend
use Rattle.command_endings.specs.Commands.Report.{WritesReport}
use Rattle.command_endings.specs.Commands.Demo as demo
use Rattle.command_endings.specs.Commands.Solve as solve
use Rattle.command_endings.specs.Commands.Verify as verify
use Rattle.command_endings.specs.Commands.Deficiency.{WritesDeficiency}
use Rattle.command_endings.specs.Commands.Edits.{WritesKernels}
use Rattle.command_endings.specs.Commands.Mus as mus

-- With these options it may end for these inputs with this status, where it writes the one text and says the other.
abbrev pub Answers : (c : Command) → Options → Values (inputs_of c) → Status → List ℕ → List ℕ → Type 0
Answers command.ReducePure options values = EndsDone (WritesReduction values.0 Pure options.protect options.pivots)
Answers command.ReduceMatching options values = EndsDone (WritesReduction values.0 Matching options.protect options.pivots)
Answers command.ReduceLinear options values = linear.Answers options values.0
Answers command.ReduceGeneral options values = λ status written said. general.Answers options values.0 written said status
Answers command.Check options values = check.Answers values.0 values.1.0
Answers command.Extend options values = extend.Answers values.0 values.1.0 values.1.1.0
Answers command.Report options values = EndsDone (WritesReport values.0)
Answers command.Demo options values = λ status written said. demo.Answers options.number written said status
Answers command.Solve options values = λ status written said. solve.Answers options values.0 written said status
Answers command.Verify options values = verify.Answers values.0 values.1.0
Answers command.Deficiency options values = EndsDone (WritesDeficiency values.0)
Answers command.Edits options values = EndsDone (WritesKernels (states (live_of values.0) values.1.0))
Answers command.Mus options values = λ status written said. mus.Answers options values.0 written said status

-- these options and inputs decide that it ends with this status
abbrev pub Decides : (c : Command) → Options → Values (inputs_of c) → Status → Type 0
Decides command.ReducePure options values = IsDone
Decides command.ReduceMatching options values = IsDone
Decides command.ReduceLinear options values = linear.Decides options values.0
Decides command.ReduceGeneral options values = general.Decides options values.0
Decides command.Check options values = check.Decides values.0 values.1.0
Decides command.Extend options values = extend.Decides values.0 values.1.0 values.1.1.0
Decides command.Report options values = IsDone
Decides command.Demo options values = demo.Decides
Decides command.Solve options values = solve.Decides options values.0
Decides command.Verify options values = verify.Decides values.0 values.1.0
Decides command.Deficiency options values = IsDone
Decides command.Edits options values = IsDone
Decides command.Mus options values = mus.Decides options values.0
