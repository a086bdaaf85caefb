use Rattle.lk_model.specs.Held.Growing.{IsHeld}
use Rattle.lk_model.proofs.open_clause.flag_all.Given as goal

-- the flags tell of the literals so far
abbrev pub invariant-loop-i : goal.invariant-loop-i
invariant-loop-i l = IsHeld l.vars l.literals l.i l.flags
