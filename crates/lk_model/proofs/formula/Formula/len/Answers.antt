use Rattle.std.proofs.Common.{arith}
use Rattle.lk_model.proofs.Cuts.{clauses_kept, length-cut}
use Rattle.lk_model.proofs.formula.Formula.len.Goals as goal

pub overflow_cast-result : goal.overflow_cast-result
overflow_cast-result c =
    omega (arith, c.len.ensures, c.self.invariant.limits.clauses, length-cut 0 c.self.inside.literals.items c.self.inside.ends.items)

pub returns-clause-few : goal.returns-clause-few
returns-clause-few c =
    omega (arith, c.len.ensures, clauses_kept c.self.inside.vars c.self.inside.literals.items c.self.inside.ends.items c.args.self.now c.self.view_is, c.self.invariant.limits.clauses, length-cut 0 c.self.inside.literals.items c.self.inside.ends.items)

pub returns-clause-value : goal.returns-clause-value
returns-clause-value c =
    omega (arith, c.len.ensures, clauses_kept c.self.inside.vars c.self.inside.literals.items c.self.inside.ends.items c.args.self.now c.self.view_is)
