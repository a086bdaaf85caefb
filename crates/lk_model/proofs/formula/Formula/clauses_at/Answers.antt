use Rattle.std.proofs.Common.{ap, arith, length, ℤ, List}
use Rattle.lk_model.specs.Formulas.Formula.{Cnf, literal_count}
use Rattle.lk_model.proofs.Rising.{rising_bounds}
use Rattle.lk_model.proofs.ClausesAt.{few_clauses, few_literals}
use Rattle.lk_model.proofs.formula.Formula.clauses_at.Goals as goal

pub clause-requires-clause-first : goal.clause-requires-clause-first
clause-requires-clause-first c = (rising_bounds 0 _ _ c.loop-p.p-index c.requires c.loop-p-test.true).0

pub clause-requires-clause-last : goal.clause-requires-clause-last
clause-requires-clause-last c = (rising_bounds 0 _ _ c.loop-p.p-index c.requires c.loop-p-test.true).1

pub push_within-requires-clause-clauses : goal.push_within-requires-clause-clauses
push_within-requires-clause-clauses c =
    omega (arith, few_clauses c.args.self.now _ c.loop-p.p-index c.requires c.loop-p-test.true, ap (λ (G : Cnf). length G.clauses) c.loop-p.invariant, c.empty-clauses.ensures.limits.clauses)

pub push_within-requires-clause-literals : goal.push_within-requires-clause-literals
push_within-requires-clause-literals c =
    omega (arith, few_literals c.args.self.now _ c.loop-p.p-index c.requires c.loop-p-test.true, ap (λ (G : Cnf). literal_count G) c.loop-p.invariant, ap (λ (ls : List ℤ). length ls) c.clause.ensures.value, c.empty-clauses.ensures.limits.literals)
