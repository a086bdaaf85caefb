use Rattle.std.proofs.Common.{◌-◌, length}
use Rattle.command_words.proofs.CommonWords.{CountsUp}
use Rattle.command_words.proofs.words.common.Given as goal

abbrev pub invariant-loop-count : goal.invariant-loop-count
invariant-loop-count l = CountsUp l.words l.front l.count

abbrev pub decreases-loop-count : goal.decreases-loop-count
decreases-loop-count l = length l.words - l.count
