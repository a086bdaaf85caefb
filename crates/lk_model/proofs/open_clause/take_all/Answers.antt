use Rattle.std.proofs.Common.{arith, subst, List, [], ◌∷◌, ◌++◌, ℤ}
use Rattle.lk_model.specs.Held.Growing.{AreFlagged}
use Rattle.lk_model.proofs.Flags.{Flagged-pop}
use Rattle.lk_model.proofs.Literals.{clause-last}
use Rattle.lk_model.proofs.Ranks.{rank_small}
use Rattle.lk_model.proofs.open_clause.take_all.Goals as goal

pub index_mut-requires : goal.index_mut-requires
index_mut-requires c =
    let n = c.args.vars in
    let rest = c.pop.new.self.items in
    let l = c.in-Some.l in
    let held : AreFlagged n (rest ++ l ∷ []) c.loop-l.flags = subst (λ (s : List ℤ). AreFlagged n s c.loop-l.flags) c.in-Some.ensures.items c.loop-l.invariant in
    omega (arith, rank_small n l (clause-last n rest l held.clause), held.size)

pub loop-l-preserved : goal.loop-l-preserved
loop-l-preserved c = Flagged-pop _ _ _ _ (subst (λ (s : List ℤ). AreFlagged c.args.vars s c.loop-l.flags) c.in-Some.ensures.items c.loop-l.invariant)
