use Rattle.std.proofs.Common.{◌≡◌, ◌+◌, ℤ, Option, Some, List, ℕ, [], true, nat_le, subst, sym, arith, take, IsTrue}
use Rattle.std.specs.Prelude.{MatchOption}
use Rattle.std.specs.List.{list_all}
use Rattle.lk_model.specs.Formulas.Literal.{contains, is_literal}
use Rattle.lk_model.proofs.ListTests.{passes_each}
use Rattle.check_rounds.specs.Index.{block_of}
use Rattle.check_tables.proofs.LiteralSetLemmas.{all_front}
use Rattle.check_rounds.proofs.IndexLemmas.{best_more, best_first}
use Rattle.check_rounds.proofs.index.Index.literal_of.Goals as goal
use Rattle.check_rounds.proofs.index.Index.literal_of.Goals.{in-Some, in-None}

-- what is kept of the best literal so far
abbrev Keeps : List ℕ → List ℤ → Option ℤ → Type 0
Keeps blocks c best = MatchOption best (c ≡ []) (λ k. (contains c k ≡ true) × IsTrue (list_all (λ j. nat_le (block_of blocks j) (block_of blocks k)) c))

pub better-requires-clause-first : goal.better-requires-clause-first
better-requires-clause-first c =
    let clause = c.args.clause.now in
    let kept = subst (λ (o : Option ℤ). Keeps c.args.blocks.now (take c.loop-l.l-index clause) o) c.in-Some.is c.loop-l.invariant in
    passes_each (is_literal c.args.n) (take c.loop-l.l-index clause) c.in-Some.k (all_front (is_literal c.args.n) c.loop-l.l-index clause c.requires.clause) kept.0

pub loop-l-preserved : goal.loop-l-preserved
loop-l-preserved c =
    let blocks = c.args.blocks.now in
    let clause = c.args.clause.now in
    let i = c.loop-l.l-index in
    let l = c.l-item.result in
    elim c.match-best.branch [
      | in-Some w ↦
          let kept = subst (λ (o : Option ℤ). Keeps blocks (take i clause) o) w.in-Some.is c.loop-l.invariant in
          subst (λ (b : ℤ). Keeps blocks (take (i + 1) clause) (Some b)) (sym w.best-is)
          (best_more blocks clause i l w.better.result w.in-Some.k (omega arith) c.l-item.is kept.0 kept.1 w.better.ensures.one w.better.ensures.first w.better.ensures.second)
      | in-None w ↦
          let kept = subst (λ (o : Option ℤ). Keeps blocks (take i clause) o) w.in-None.is c.loop-l.invariant in
          subst (λ (b : ℤ). Keeps blocks (take (i + 1) clause) (Some b)) (sym w.best-is) (best_first blocks clause i l (omega arith) c.l-item.is kept)
    ]
