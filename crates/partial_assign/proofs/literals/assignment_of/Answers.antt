use Rattle.std.proofs.Common.{◌∙◌, ℤ, List, ap, arith}
use Rattle.std.proofs.lemmas.List.{take_all}
use Rattle.lk_model.specs.Formulas.Literal.{variable}
use Rattle.lk_model.specs.Formulas.Assignment.{assignment_of, Assignment}
use Rattle.partial_assign.proofs.SetValues.{rising_literal, still_unset, values_more}
use Rattle.partial_assign.proofs.literals.assignment_of.Goals as goal

pub put-requires-clause-literal : goal.put-requires-clause-literal
put-requires-clause-literal c = rw c.loop-l.invariant.vars (rising_literal c.args.n c.args.literals.now c.loop-l.l-index c.l-item.result c.requires.rising c.loop-l-test.true c.l-item.is)

pub put-requires-clause-unset : goal.put-requires-clause-unset
put-requires-clause-unset c =
    ap (λ (φ : Assignment). φ (variable c.l-item.result)) c.loop-l.invariant.values
    ∙ still_unset c.args.n c.args.literals.now c.loop-l.l-index c.l-item.result c.requires.rising c.loop-l-test.true c.l-item.is

pub loop-l-preserved : goal.loop-l-preserved
loop-l-preserved c = record {
  vars = c.put.ensures.vars ∙ c.loop-l.invariant.vars;
  values = values_more c.args.n c.args.literals.now c.loop-l.l-index c.l-item.result _ _ c.requires.rising c.loop-l-test.true c.l-item.is c.loop-l.invariant.values c.put.ensures.set c.put.ensures.others;
}

pub returns-clause-values : goal.returns-clause-values
returns-clause-values c = c.loop-l.invariant.values ∙ ap (λ (ls : List ℤ). assignment_of ls) (take_all c.loop-l.l-index c.args.literals.now (omega (arith, c.loop-l-test.false)))
