use Rattle.std.proofs.Common.{◌∙◌, ◌+◌, List, drop, sym, subst, arith, IsSome}
use Rattle.lk_model.specs.Chains.Chain.{Premises, after_turns, chain_clause}
use Rattle.lk_model.specs.Held.VariableSets.{premises_of}
use Rattle.lk_model.specs.declared.document.Turn.{Turn}
use Rattle.refutation_log.specs.SameClause.{IsSameClause}
use Rattle.refutation_log.proofs.Chains.{chain_begins, turn_next, is_some_clause, turn_goes, turn_taken}
use Rattle.refutation_log.proofs.log.Log.goes.Goals as goal

pub loop-turn-init : goal.loop-turn-init
loop-turn-init c =
    chain_begins (premises_of c.args.over.now c.args.self.now.steps) c.args.first c.args.turns.now c.begin.new.flagged c.in_ok-begin.ensures

pub returns-then-not-can_take : goal.returns-then-not-can_take
returns-then-not-can_take c =
    let from : Premises = premises_of c.args.over.now c.args.self.now.steps in
    let turns = c.args.turns.now in
    let i = c.loop-turn.turn-index in
    let next = turn_next turns i c.turn-item.result (omega arith) c.turn-item.is in
    let stuck = c.if-not-can_take.true in (
      λ e. absurd (let f : ⊥ = cc in f),
      λ h. (
          let left : IsSome (after_turns from c.loop-turn.flagged (drop i turns)) =
          is_some_clause (after_turns from c.loop-turn.flagged (drop i turns)) (chain_clause from c.args.first turns) c.loop-turn.invariant h in
          let taken = turn_goes from c.loop-turn.flagged c.turn-item.result (drop (i + 1) turns)
          (subst (λ (ts : List Turn). IsSome (after_turns from c.loop-turn.flagged ts)) next left) in
          sym stuck ∙ c.can_take.ensures.1 taken
          ),
    )

pub loop-turn-preserved : goal.loop-turn-preserved
loop-turn-preserved c =
    let from : Premises = premises_of c.args.over.now c.args.self.now.steps in
    let turns = c.args.turns.now in
    let i = c.loop-turn.turn-index in
    let next = turn_next turns i c.turn-item.result (omega arith) c.turn-item.is in
    let chain = chain_clause from c.args.first turns in
    turn_taken from c.loop-turn.flagged c.take.new.flagged c.turn-item.result (drop (i + 1) turns) chain c.in_ok-take.ensures
    (subst (λ (ts : List Turn). IsSameClause (after_turns from c.loop-turn.flagged ts) chain) next c.loop-turn.invariant)
