use Rattle.std.proofs.Common.{◌≡◌, [], length}
use Rattle.line_text.specs.Fields.{fields}
use Rattle.line_text.specs.FieldLists.{twos}
use Rattle.round_text.specs.RoundLines.{turn_within}
use Rattle.round_text.proofs.chain_lists.turns_in.Given as goal

-- what is read of the rest goes on from what was read
abbrev pub invariant-words : goal.invariant-words
invariant-words l = twos (turn_within l.n l.number) [] (fields l.line) ≡ twos (turn_within l.n l.number) l.turns (fields l.rest)

abbrev pub decreases-words : goal.decreases-words
decreases-words l = length l.rest
