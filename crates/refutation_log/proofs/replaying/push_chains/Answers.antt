use Rattle.std.proofs.Common.{◌≡◌, ◌∙◌, ◌+◌, ◌<◌, ◌++◌, ◌∷◌, [], List, length, take, true, IsSome, sym, ap, subst, arith}
use Rattle.std.proofs.lemmas.List.{take_more}
use Rattle.lk_model.specs.Chains.Chain.{chain_clause}
use Rattle.lk_model.specs.Chains.Rounds.{is_refutation}
use Rattle.lk_model.specs.Held.VariableSets.{premises_of}
use Rattle.lk_model.specs.declared.document.Step.{Step}
use Rattle.lk_model.specs.declared.document.Turn.{Turn}
use Rattle.refutation_log.specs.declared.chain.Chain.{Chain}
use Rattle.refutation_log.specs.Derivation.{Derivation, Extends}
use Rattle.refutation_log.proofs.ReplayLaws.{replay_none, replay_more, so_many, goes, never_early, begins}
use Rattle.refutation_log.proofs.replaying.push_chains.Goals as goal

pub loop-chain-init : goal.loop-chain-init
loop-chain-init c = record { so_far = replay_none c.args.over.now c.args.log.now c.requires.empty; begins = λ d h. c.requires.empty }

pub returns-then-is_refutation-clause-none : goal.returns-then-is_refutation-clause-none
returns-then-is_refutation-clause-none c = λ _ d h.
    let early = sym c.is_refutation.ensures.value ∙ c.if-is_refutation.true in
    never_early h c.loop-chain.chain-index (omega arith)
    (subst (λ (steps : List Step). is_refutation steps ≡ true) (c.loop-chain.invariant.begins d h) early)

pub returns-then-not-branch-clause-none : goal.returns-then-not-branch-clause-none
returns-then-not-branch-clause-none c = λ _ d h.
    let over = c.args.over.now in
    let chain = c.chain-item.result in
    let some = goes h c.loop-chain.chain-index chain (omega arith) c.chain-item.is in
    let here : IsSome (chain_clause (premises_of over c.loop-chain.log.steps) chain.first chain.turns) =
    subst (λ (steps : List Step). IsSome (chain_clause (premises_of over steps) chain.first chain.turns)) (sym (c.loop-chain.invariant.begins d h)) some in
    let has = c.in_ok-has_chain.ensures.chain.1 (rw (c.as_slice-turns.ensures) here) in
    let stuck = c.if-not-branch.true in cc

pub loop-chain-preserved : goal.loop-chain-preserved
loop-chain-preserved c =
    let over = c.args.over.now in
    let given = c.args.chains.now in
    let i = c.loop-chain.chain-index in
    let chain = c.chain-item.result in
    let within : i < length given = omega arith in
    let so_far = c.loop-chain.invariant.so_far in
    let one : Extends over c.loop-chain.log chain.first chain.turns c.push_chain.new.self =
    subst (λ (d : Derivation). Extends over d chain.first chain.turns c.push_chain.new.self) c.in_ok-has_chain.ensures.same
    (subst (λ (ts : List Turn). Extends over c.has_chain.new.self chain.first ts c.push_chain.new.self) c.as_slice-turns.ensures c.in_ok-push_chain.ensures.ok) in
    let more = replay_more so_far (sym c.is_refutation.ensures.value ∙ c.if-is_refutation.false) one in
    let next : take (i + 1) given ≡ take i given ++ chain ∷ [] =
    take_more given i chain within ∙ ap (λ (d : Chain). take i given ++ d ∷ []) (sym c.chain-item.is) in
    record {
      so_far = rw next more;
      begins = λ d h. begins h chain within c.chain-item.is so_far.numbered (so_many given i so_far (omega arith)) (c.loop-chain.invariant.begins d h) one;
    }
