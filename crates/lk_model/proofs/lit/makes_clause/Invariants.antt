use Rattle.std.proofs.Common.{take, IsTrue}
use Rattle.lk_model.specs.Formulas.Literal.{is_clause}
use Rattle.lk_model.proofs.lit.makes_clause.Given as goal

-- the literals so far make a clause
abbrev pub invariant-loop-i : goal.invariant-loop-i
invariant-loop-i l = IsTrue (is_clause l.n (take l.i l.lits))
