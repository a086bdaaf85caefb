use Rattle.std.proofs.Common.{◌<◌, length, arith}
use Rattle.edit_text.proofs.Counts.{clause_more}
use Rattle.edit_text.proofs.draft.literals_of.Goals as goal

pub loop-k-preserved : goal.loop-k-preserved
loop-k-preserved c =
    let f = c.args.f.now in
    let lt : c.loop-k.k < length f.clauses = omega (arith, c.loop-k-test.true, c.len-k-end.ensures.value) in
    clause_more f c.loop-k.k c.loop-k.literals c.clause.result.now lt c.loop-k.invariant c.clause.ensures.value
