use Rattle.std.proofs.Common.{◌≡◌, ◌+◌, List, [], Some, drop, subst, arith, IsSome}
use Rattle.std.proofs.lemmas.List.{drop_all}
use Rattle.lk_model.specs.Chains.Chain.{Premises, after_turns, chain_clause}
use Rattle.lk_model.specs.Held.VariableSets.{premises_of}
use Rattle.lk_model.specs.declared.document.Turn.{Turn}
use Rattle.refutation_log.specs.SameClause.{IsSameClause}
use Rattle.refutation_log.proofs.Chains.{same_clause-trans, chain_begins, turn_next, is_some_clause, turn_goes, turn_taken}
use Rattle.refutation_log.proofs.log.Log.clause_of_chain.Goals as goal

pub loop-turn-init : goal.loop-turn-init
loop-turn-init c =
    chain_begins (premises_of c.args.over.now c.args.self.now.steps) c.args.first c.args.turns.now c.begin.new.flagged c.in_ok-begin.ensures

pub take-requires-clause-goes : goal.take-requires-clause-goes
take-requires-clause-goes c =
    let from : Premises = premises_of c.args.over.now c.args.self.now.steps in
    let turns = c.args.turns.now in
    let i = c.loop-turn.turn-index in
    let left : IsSome (after_turns from c.loop-turn.flagged (drop i turns)) =
    is_some_clause (after_turns from c.loop-turn.flagged (drop i turns)) (chain_clause from c.args.first turns) c.loop-turn.invariant c.requires.chain in
    turn_goes from c.loop-turn.flagged c.turn-item.result (drop (i + 1) turns)
    (subst (λ (ts : List Turn). IsSome (after_turns from c.loop-turn.flagged ts)) (turn_next turns i c.turn-item.result (omega arith) c.turn-item.is) left)

pub loop-turn-preserved : goal.loop-turn-preserved
loop-turn-preserved c =
    let from : Premises = premises_of c.args.over.now c.args.self.now.steps in
    let turns = c.args.turns.now in
    let i = c.loop-turn.turn-index in
    let next = turn_next turns i c.turn-item.result (omega arith) c.turn-item.is in
    let chain = chain_clause from c.args.first turns in
    turn_taken from c.loop-turn.flagged c.take.new.flagged c.turn-item.result (drop (i + 1) turns) chain c.in_ok-take.ensures
    (subst (λ (ts : List Turn). IsSameClause (after_turns from c.loop-turn.flagged ts) chain) next c.loop-turn.invariant)

pub returns : goal.returns
returns c =
    let from : Premises = premises_of c.args.over.now c.args.self.now.steps in
    let turns = c.args.turns.now in
    let chain = chain_clause from c.args.first turns in
    let flagged = c.loop-turn.flagged in
    let done : drop c.loop-turn.turn-index turns ≡ [] = drop_all c.loop-turn.turn-index turns (omega arith) in
    let same : IsSameClause (Some flagged) chain = subst (λ (ts : List Turn). IsSameClause (after_turns from flagged ts) chain) done c.loop-turn.invariant in
    same_clause-trans (Some c.take-2.result) (Some flagged) chain c.take-2.ensures.same same
