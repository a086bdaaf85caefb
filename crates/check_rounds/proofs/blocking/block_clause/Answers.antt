use Rattle.std.proofs.Common.{◌-◌, ◌+◌, ℕ, take, sym, subst, arith}
use Rattle.std.specs.Prelude.{nat_le, slice_set}
use Rattle.std.proofs.lemmas.Bool.{leb-true}
use Rattle.lk_model.specs.Formulas.Literal.{variable}
use Rattle.lk_model.proofs.Booleans.{and_true}
use Rattle.check_tables.proofs.LiteralSetLemmas.{item_literal}
use Rattle.check_rounds.specs.Blocking.{BlocksClause}
use Rattle.check_rounds.proofs.BlockTables.{literal_blocked}
use Rattle.check_rounds.proofs.blocking.block_clause.Goals as goal

pub loop-l-preserved : goal.loop-l-preserved
loop-l-preserved c =
    let n = c.args.n in
    let clause = c.args.clause.now in
    let i = c.loop-l.l-index in
    let l = c.l-item.result in
    let b = and_true (nat_le 1 (variable l)) (nat_le (variable l) n) (item_literal n clause i l c.requires.clause c.loop-l-test.true c.l-item.is) in
    let low = leb-true 1 (variable l) b.0 in
    let high = leb-true (variable l) n b.1 in
    subst (λ (v : ℕ). BlocksClause n c.args.k (take (i + 1) clause) c.args.table.now (slice_set c.loop-l.table (v - 1) c.args.k)) (sym c.var.ensures.value)
    (literal_blocked n c.args.k clause i l c.args.table.now c.loop-l.table c.loop-l-test.true c.l-item.is low (omega (arith, high, c.loop-l.invariant.size, c.requires.size)) c.loop-l.invariant)
