use Rattle.std.proofs.Common.{vec_len}
use Rattle.lk_model.specs.Held.Growing.{AreFlagged}
use Rattle.lk_model.proofs.open_clause.take_all.Given as goal

-- the flags tell of the literals that are left
abbrev pub invariant-loop-l : goal.invariant-loop-l
invariant-loop-l l = AreFlagged l.vars l.literals.items l.flags

abbrev pub decreases-loop-l : goal.decreases-loop-l
decreases-loop-l l = vec_len l.literals
