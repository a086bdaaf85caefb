use Rattle.std.proofs.Common.{◌<◌, ◌+◌, ℕ, length, set, take, sym, subst, arith}
use Rattle.std.proofs.lemmas.List.{get_or_read}
use Rattle.lk_model.specs.Formulas.Literal.{rank_of}
use Rattle.occurrence_lists.specs.Noting.{CountsClause}
use Rattle.occurrence_lists.proofs.Ranks.{rank_held}
use Rattle.occurrence_lists.proofs.Noted.{Counts-next, count_same}
use Rattle.occurrence_lists.proofs.counting.count_clause.Goals as goal

pub index_mut-requires : goal.index_mut-requires
index_mut-requires c = omega (arith, c.requires.within (rank_of c.l-item.result) (rank_held _ _ _ c.loop-l-test.true c.l-item.is), c.loop-l.invariant.size)

pub overflow_add-index_mut : goal.overflow_add-index_mut
overflow_add-index_mut c =
    let within : rank_of c.l-item.result < length c.loop-l.counts = omega (arith, c.requires.within (rank_of c.l-item.result) (rank_held _ _ _ c.loop-l-test.true c.l-item.is), c.loop-l.invariant.size) in
    let read = get_or_read c.loop-l.counts (rank_of c.l-item.result) c.index_mut.result.now within c.index_mut.ensures.value 0 in
    let same = count_same _ _ _ _ _ c.requires.clause c.loop-l-test.true c.l-item.is c.loop-l.invariant in
    omega (arith, read, same, c.requires.few (rank_of c.l-item.result))

pub loop-l-preserved : goal.loop-l-preserved
loop-l-preserved c =
    let here = c.requires.within (rank_of c.l-item.result) (rank_held _ _ _ c.loop-l-test.true c.l-item.is) in
    let within : rank_of c.l-item.result < length c.loop-l.counts = omega (arith, here, c.loop-l.invariant.size) in
    let read = get_or_read c.loop-l.counts (rank_of c.l-item.result) c.index_mut.result.now within c.index_mut.ensures.value 0 in
    subst (λ (n : ℕ). CountsClause (take (c.loop-l.l-index + 1) c.args.clause.now) c.args.counts.now (set c.loop-l.counts (rank_of c.l-item.result) (n + 1))) (sym read)
    (Counts-next _ _ _ _ _ c.requires.clause c.loop-l-test.true c.l-item.is here c.loop-l.invariant)
