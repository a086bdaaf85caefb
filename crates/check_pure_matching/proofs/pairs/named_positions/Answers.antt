use Rattle.std.proofs.Common.{◌≡◌, ◌∙◌, ◌+◌, ◌*◌, ap, arith, get_or}
use Rattle.std.proofs.lemmas.List.{length-set}
use Rattle.lk_model.specs.Formulas.Literal.{rank_of}
use Rattle.lk_model.specs.declared.document.Pair.{Pair}
use Rattle.check_pure_matching.proofs.PairTables.{pair_bounds, rank_against, named_more}
use Rattle.check_pure_matching.proofs.pairs.named_positions.Goals as goal

-- what stands where there is no pair
abbrev no_pair : Pair
no_pair = record { var = 0; with = 0; against = 0 }

pub from_var-requires-clause-first : goal.from_var-requires-clause-first
from_var-requires-clause-first c =
    let b = pair_bounds c.args.n c.args.pairs.now c.loop-pair.pair-index no_pair c.requires.rising c.loop-pair-test.true in
    omega (arith, b.0)

pub from_var-requires-clause-last : goal.from_var-requires-clause-last
from_var-requires-clause-last c =
    let b = pair_bounds c.args.n c.args.pairs.now c.loop-pair.pair-index no_pair c.requires.rising c.loop-pair-test.true in
    omega (arith, b.1, c.requires.small)

pub index_mut-requires : goal.index_mut-requires
index_mut-requires c =
    let b = pair_bounds c.args.n c.args.pairs.now c.loop-pair.pair-index no_pair c.requires.rising c.loop-pair-test.true in
    omega (arith, b.1, c.loop-pair.invariant.size, ap rank_of c.from_var.ensures)

pub index_mut-requires-in-loop-pair : goal.index_mut-requires-in-loop-pair
index_mut-requires-in-loop-pair c =
    let q : Pair = get_or c.args.pairs.now c.loop-pair.pair-index no_pair in
    let b = pair_bounds c.args.n c.args.pairs.now c.loop-pair.pair-index no_pair c.requires.rising c.loop-pair-test.true in
    let rank : rank_of c.from_var-in-loop-pair.result ≡ 2 * q.var + 1 = ap rank_of c.from_var-in-loop-pair.ensures ∙ rank_against q.var b.0 in
    omega (arith, b.1, c.loop-pair.invariant.size, rank, length-set c.loop-pair.named (rank_of c.from_var.result) q.with)

pub loop-pair-preserved : goal.loop-pair-preserved
loop-pair-preserved c =
    let q : Pair = get_or c.args.pairs.now c.loop-pair.pair-index no_pair in
    let b = pair_bounds c.args.n c.args.pairs.now c.loop-pair.pair-index no_pair c.requires.rising c.loop-pair-test.true in
    let first : rank_of c.from_var.result ≡ 2 * q.var = ap rank_of c.from_var.ensures in
    let second : rank_of c.from_var-in-loop-pair.result ≡ 2 * q.var + 1 = ap rank_of c.from_var-in-loop-pair.ensures ∙ rank_against q.var b.0 in
    rw (first, second) (named_more c.args.n c.args.pairs.now c.loop-pair.pair-index no_pair c.loop-pair.named c.requires.rising c.loop-pair-test.true c.loop-pair.invariant)
