use Rattle.std.proofs.Common.{map}
use Rattle.command_words.proofs.CommandSearch.{IsSearched}
use Rattle.command_words.proofs.words.command_of.Given as goal

abbrev pub invariant-loop-command : goal.invariant-loop-command
invariant-loop-command l = IsSearched (map (λ w. w.now) l.words) l.command-items l.command-index l.known
