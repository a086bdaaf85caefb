use Rattle.std.proofs.Common.{◌≡◌, take, None}
use Rattle.std.specs.Prelude.{find}
use Rattle.lean_checker.proofs.ClauseLines.{is_changed}
use Rattle.lean_checker.proofs.common.kept_clause.Given as goal

-- none of the positions so far has another clause line
abbrev pub invariant-loop-i : goal.invariant-loop-i
invariant-loop-i l = find (is_changed l.f l.d) (take l.i l.d.kept) ≡ None
