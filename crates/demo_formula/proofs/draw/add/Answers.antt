use Rattle.std.proofs.Common.{rules, subst, sym, List, IsTrue}
use Rattle.std.specs.Prelude.{ℤ}
use Rattle.lk_model.specs.Formulas.Literal.{is_clause}
use Rattle.demo_formula.proofs.Growing.{with_another}
use Rattle.demo_formula.proofs.draw.add.Goals as goal

pub returns-in_ok-push-clause-clause : goal.returns-in_ok-push-clause-clause
returns-in_ok-push-clause-clause c =
    subst (λ (ls : List ℤ). IsTrue (is_clause 2200 ls)) (sym c.in_ok-push.ensures.items)
    (with_another c.args.clause.now.items c.args.l c.requires.clause c.requires.literal (search rules))
