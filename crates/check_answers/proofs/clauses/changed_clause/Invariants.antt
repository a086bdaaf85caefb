use Rattle.std.proofs.Common.{◌≡◌, take, None}
use Rattle.std.specs.Prelude.{find}
use Rattle.check_answers.proofs.CoreClauses.{is_changed}
use Rattle.check_answers.proofs.clauses.changed_clause.Given as goal

-- none of the positions so far has another clause line
abbrev pub invariant-loop-i : goal.invariant-loop-i
invariant-loop-i l = find (is_changed l.f l.a) (take l.i l.a.core) ≡ None
