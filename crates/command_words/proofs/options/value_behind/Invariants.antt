use Rattle.std.proofs.Common.{length, ◌-◌}
use Rattle.command_words.proofs.OptionSteps.{IsBehind}
use Rattle.command_words.proofs.options.value_behind.Given as goal

abbrev pub invariant-loop-place : goal.invariant-loop-place
invariant-loop-place l = IsBehind l.option l.words l.place

abbrev pub decreases-loop-place : goal.decreases-loop-place
decreases-loop-place l = length l.words - l.place
