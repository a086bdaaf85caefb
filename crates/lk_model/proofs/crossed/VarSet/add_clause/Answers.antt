use Rattle.std.proofs.Common.{◌≡◌, ◌∙◌, ℤ, ap, arith, length, subst, sym, true}
use Rattle.std.proofs.lemmas.List.{length-set}
use Rattle.lk_model.specs.Formulas.Literal.{is_literal}
use Rattle.lk_model.specs.Held.VariableSets.{is_in}
use Rattle.lk_model.proofs.Literals.{literal_at}
use Rattle.lk_model.proofs.Ranks.{literal_bounds}
use Rattle.lk_model.proofs.VariableLists.{mentioned_more}
use Rattle.lk_model.proofs.crossed.VarSet.add_clause.Goals as goal

pub loop-l-preserved : goal.loop-l-preserved
loop-l-preserved c =
    let n = length c.args.self.now in
    let l = c.l-item.result in
    let literal = subst (λ (k : ℤ). is_literal n k ≡ true) (sym c.l-item.is) (literal_at n c.args.clause.now c.loop-l.l-index l c.requires c.loop-l-test.true) in
    let last = (literal_bounds n l literal).1 in
    record {
      size = ap (λ s. length s) c.add.ensures ∙ length-set c.loop-l.self _ _ ∙ c.loop-l.invariant.size;
      vars = λ v. ap (λ s. is_in s v) c.add.ensures
          ∙ mentioned_more c.args.self.now c.loop-l.self c.args.clause.now c.loop-l.l-index v l c.var.result c.loop-l-test.true c.l-item.is c.var.ensures.value
          c.var.ensures.least (omega (arith, c.var.ensures.value, last, c.loop-l.invariant.size)) (c.loop-l.invariant.vars v);
    }
