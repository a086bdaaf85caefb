use Rattle.std.proofs.Common.{◌≡◌, ◌+◌, ℤ, arith, true, sym, subst}
use Rattle.std.specs.Prelude.{slice_set}
use Rattle.lk_model.specs.Formulas.Literal.{is_literal, rank_of}
use Rattle.lk_model.specs.Held.Growing.{IsHeld}
use Rattle.lk_model.proofs.Flags.{Held-flag}
use Rattle.lk_model.proofs.Literals.{clause_literals, literal_at}
use Rattle.lk_model.proofs.Ranks.{rank_small}
use Rattle.lk_model.proofs.open_clause.flag_all.Goals as goal

pub index_mut-requires : goal.index_mut-requires
index_mut-requires c =
    let n = c.args.vars in
    let l = c.index-literals-i.result in
    let there = literal_at n c.args.literals.now c.loop-i.i l (clause_literals n c.args.literals.now c.requires.clause) c.loop-i-test.true in
    let literal = subst (λ (k : ℤ). is_literal n k ≡ true) (sym c.index-literals-i.is) there in
    omega (arith, rank_small n l literal, c.loop-i.invariant.told.size)

pub loop-i-preserved : goal.loop-i-preserved
loop-i-preserved c = subst (λ (l : ℤ). IsHeld c.args.vars c.args.literals.now (c.loop-i.i + 1) (slice_set c.loop-i.flags (rank_of l) true)) (sym c.index-literals-i.is)
    (Held-flag c.args.vars c.args.literals.now c.loop-i.i c.loop-i.flags c.index-literals-i.result c.loop-i.invariant c.loop-i-test.true)
