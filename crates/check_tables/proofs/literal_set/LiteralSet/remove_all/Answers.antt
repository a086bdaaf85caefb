use Rattle.std.proofs.Common.{◌∙◌, List, ℤ, length, take, arith, refl, ap, sym, subst, ◌+◌}
use Rattle.std.proofs.lemmas.List.{take_all, length-set}
use Rattle.check_tables.specs.LiteralSets.{IsSetOf, less}
use Rattle.check_tables.proofs.LiteralSetLemmas.{less_none, less_more}
use Rattle.check_tables.proofs.literal_set.LiteralSet.remove_all.Goals as goal

pub loop-l-init : goal.loop-l-init
loop-l-init c = record { size = refl; removed = λ n set lits s. less_none n set c.args.self.now s }

pub loop-l-preserved : goal.loop-l-preserved
loop-l-preserved c = record {
  size = ap length c.remove.ensures ∙ length-set c.loop-l.self _ _ ∙ c.loop-l.invariant.size;
  removed = λ n set lits s.
      subst (λ flags. IsSetOf n (less set (take (c.loop-l.l-index + 1) c.args.literals.now)) flags) (sym c.remove.ensures)
      (less_more n set c.args.literals.now c.loop-l.l-index c.l-item.result c.loop-l.self lits (omega arith) c.l-item.is (c.loop-l.invariant.removed n set lits s));
}

pub returns : goal.returns
returns c = record {
  size = c.loop-l.invariant.size;
  removed = λ n set lits s.
      subst (λ (ls : List ℤ). IsSetOf n (less set ls) c.loop-l.self) (take_all c.loop-l.l-index c.args.literals.now (omega arith)) (c.loop-l.invariant.removed n set lits s);
}
