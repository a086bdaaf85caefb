use Rattle.std.proofs.Common.{◌≡◌, ◌++◌, ◌≤◌, length}
use Rattle.std.specs.Prelude.{option_map}
use Rattle.line_text.specs.Fields.{fields}
use Rattle.line_text.specs.FieldLists.{rising_from}
use Rattle.line_text.proofs.lists.numbers_in.Given as goal

-- what is read of the rest goes on from what was read
abbrev pub invariant-words : goal.invariant-words
invariant-words l = record {
  told : rising_from 0 l.high (fields l.line) ≡ option_map (λ ns. l.numbers ++ ns) (rising_from l.last l.high (fields l.rest));
  small : l.last ≤ l.high;
}

abbrev pub decreases-words : goal.decreases-words
decreases-words l = length l.rest
