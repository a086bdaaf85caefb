use Rattle.std.proofs.Common.{◌≡◌, take}
use Rattle.lk_model.specs.Formulas.Formula.{clauses_at}
use Rattle.lk_model.proofs.formula.Formula.clauses_at.Given as goal

-- the clauses at the positions so far
abbrev pub invariant-loop-p : goal.invariant-loop-p
invariant-loop-p l = l.clauses ≡ clauses_at l.self (take l.p-index l.positions)
