use Rattle.std.proofs.Common.{map, length, ◌-◌}
use Rattle.command_words.proofs.OptionSteps.{Holds}
use Rattle.command_words.proofs.options.options_of.Given as goal

abbrev pub invariant-loop-place : goal.invariant-loop-place
invariant-loop-place l = Holds l.fn.command (map (λ w. w.now) l.words) l.place

abbrev pub decreases-loop-place : goal.decreases-loop-place
decreases-loop-place l = length l.words - l.place
