use Rattle.std.proofs.Common.{sym, subst, arith}
use Rattle.check_tables.specs.LiteralSets.{IsSetOf}
use Rattle.check_tables.proofs.LiteralSetLemmas.{set_next}
use Rattle.check_tables.proofs.literal_set.LiteralSet.of.Goals as goal

pub loop-l-preserved : goal.loop-l-preserved
loop-l-preserved c =
    subst (IsSetOf c.args.n _) (sym c.add.ensures)
    (set_next c.args.n c.args.literals.now c.loop-l.l-index c.l-item.result c.loop-l.set c.requires.literals (omega arith) c.l-item.is c.loop-l.invariant)
