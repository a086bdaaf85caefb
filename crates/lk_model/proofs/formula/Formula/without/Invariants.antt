use Rattle.std.proofs.Common.{◌≡◌, take, map}
use Rattle.lk_model.specs.Formulas.Crossed.{crossed_out}
use Rattle.lk_model.specs.Held.VariableSets.{is_in}
use Rattle.lk_model.proofs.formula.Formula.without.Given as goal

-- the clauses so far, crossed out
abbrev pub invariant-loop-k : goal.invariant-loop-k
invariant-loop-k l = l.rest ≡ record { vars = l.self.vars; clauses = map (crossed_out (is_in l.blocked)) (take l.k l.self.clauses) }
