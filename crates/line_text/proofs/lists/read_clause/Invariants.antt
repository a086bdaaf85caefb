use Rattle.std.proofs.Common.{◌≡◌, ◌++◌, ◌≤◌, [], length}
use Rattle.std.specs.Prelude.{option_map}
use Rattle.line_text.specs.Fields.{fields}
use Rattle.line_text.specs.FieldLists.{clause_from}
use Rattle.line_text.proofs.lists.read_clause.Given as goal

-- what is read of the rest goes on from what was read
abbrev pub invariant-words : goal.invariant-words
invariant-words l = record {
  told : clause_from l.fn.clause.vars [] (fields l.line) ≡ option_map (λ ls. l.clause.literals ++ ls) (clause_from l.fn.clause.vars l.clause.literals (fields l.rest));
  vars : l.clause.vars ≡ l.fn.clause.vars;
  known : l.n ≡ l.fn.clause.vars;
  small : l.n ≤ 1000000;
}

abbrev pub decreases-words : goal.decreases-words
decreases-words l = length l.rest
