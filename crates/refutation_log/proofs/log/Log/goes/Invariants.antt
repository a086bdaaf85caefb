use Rattle.std.proofs.Common.{drop}
use Rattle.lk_model.specs.Held.VariableSets.{premises_of}
use Rattle.lk_model.specs.Chains.Chain.{after_turns, chain_clause}
use Rattle.refutation_log.specs.SameClause.{IsSameClause}
use Rattle.refutation_log.proofs.log.Log.goes.Given as goal

abbrev pub invariant-loop-turn : goal.invariant-loop-turn
invariant-loop-turn l =
    let from = premises_of l.over l.self.steps in
    IsSameClause (after_turns from l.flagged (drop l.turn-index l.turns)) (chain_clause from l.first l.turns)
