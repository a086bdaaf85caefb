use Rattle.std.proofs.Common.{◌≡◌, ◌++◌, length}
use Rattle.std.specs.Prelude.{option_map}
use Rattle.line_text.specs.Fields.{fields}
use Rattle.line_text.specs.FieldLists.{literals_from}
use Rattle.line_text.proofs.lists.literals_in.Given as goal

-- what is read of the rest goes on from what was read
abbrev pub invariant-words : goal.invariant-words
invariant-words l = literals_from l.rising l.n 0 (fields l.line) ≡ option_map (λ ls. l.literals ++ ls) (literals_from l.rising l.n l.last (fields l.rest))

abbrev pub decreases-words : goal.decreases-words
decreases-words l = length l.rest
