use Rattle.std.proofs.Common.{◌≡◌, [], true, nat_le, take, IsTrue}
use Rattle.std.specs.Prelude.{MatchOption}
use Rattle.std.specs.List.{list_all}
use Rattle.lk_model.specs.Formulas.Literal.{contains}
use Rattle.check_rounds.specs.Index.{block_of}
use Rattle.check_rounds.proofs.index.Index.literal_of.Given as goal

-- the best of the literals so far
abbrev pub invariant-loop-l : goal.invariant-loop-l
invariant-loop-l l = MatchOption l.best (take l.l-index l.clause ≡ [])
    (λ k. (contains (take l.l-index l.clause) k ≡ true) × IsTrue (list_all (λ j. nat_le (block_of l.blocks j) (block_of l.blocks k)) (take l.l-index l.clause)))
