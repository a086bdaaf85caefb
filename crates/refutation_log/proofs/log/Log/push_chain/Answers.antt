use Rattle.std.proofs.Common.{◌≡◌, ◌+◌, ◌<◌, ◌-◌, ◌^◌, ◌++◌, ◌∷◌, [], length, IsSome, refl, ap, subst, sym, arith}
use Rattle.std.proofs.lemmas.List.{length_push}
use Rattle.lk_model.specs.Held.VariableSets.{premises_of}
use Rattle.lk_model.specs.Chains.Chain.{chain_clause}
use Rattle.lk_model.specs.declared.document.Step.{Step}
use Rattle.refutation_log.specs.Derivation.{Derivation, IsDerivation, IsLog, Extends, next_number, step_of}
use Rattle.refutation_log.proofs.Chains.{pushed}
use Rattle.refutation_log.proofs.log.Log.push_chain.Goals as goal

both : (c : goal.Joined-clause-3)
    → IsDerivation c.self.inside.first (c.self.inside.steps.items ++ c.in_ok-step.step ∷ [])
    × Extends c.args.over.now c.args.self.now c.args.first c.args.turns.now (record { first = c.self.inside.first; steps = c.self.inside.steps.items ++ c.in_ok-step.step ∷ [] })
both c =
    let d : Derivation = record { first = c.self.inside.first; steps = c.self.inside.steps.items } in
    let back : c.args.self.now ≡ d = sym c.self.view_is in
    let over = c.args.over.now in
    let number = c.self.inside.first + c.len.result in
    let clause = c.as_slice.result.now in
    let got = pushed over d c.args.first number c.args.turns.now c.args.turns.now clause c.in_ok-clause.clause
    (subst (λ (v : Derivation). length over.formula.now.clauses < v.first) back c.requires.past)
    c.self.invariant.derivation
    (subst (λ (v : Derivation). IsSome (chain_clause (premises_of over v.steps) c.args.first c.args.turns.now)) back c.requires.chain)
    (omega (arith, c.len.ensures))
    refl
    c.as_slice.ensures.value
    (rw (← c.as_slice.ensures.value) c.as_slice.ensures.order)
    c.in_ok-clause.ensures in
    let is : step_of number clause c.args.first c.args.turns.now ≡ c.in_ok-step.step = sym c.in_ok-step.ensures in (
      subst (λ (s : Step). IsDerivation d.first (d.steps ++ s ∷ [])) is got.0,
      subst (λ (v : Derivation). Extends over v c.args.first c.args.turns.now (record { first = d.first; steps = d.steps ++ c.in_ok-step.step ∷ [] })) c.self.view_is
          (subst (λ (s : Step). Extends over d c.args.first c.args.turns.now (record { first = d.first; steps = d.steps ++ s ∷ [] })) is got.1),
    )

-- the log with the step is one
kept : (c : goal.Joined-clause-3) → IsLog c.self.inside.first c.push.new.self.items
kept c =
    let steps = c.self.inside.steps.items in
    let room : c.self.inside.first + length steps < 2 ^ 64 - 1 = subst (λ (v : Derivation). v.first + length v.steps < 2 ^ 64 - 1) (sym c.self.view_is) c.requires.room in
    rw (c.in_ok-push.ensures.items) (record { derivation = (both c).0; room = omega (arith, room, length_push steps c.in_ok-step.step) })

pub invariant_of-self-2 : goal.invariant_of-self-2
invariant_of-self-2 c = kept c

pub returns-clause-ok : goal.returns-clause-ok
returns-clause-ok c = rw (c.in_ok-push.ensures.items) (both c).1

pub returns-clause-log : goal.returns-clause-log
returns-clause-log c = kept c

pub clause_of_chain-clause-requires-clause-past : goal.clause_of_chain-clause-requires-clause-past
clause_of_chain-clause-requires-clause-past c = subst (λ (v : Derivation). length c.args.over.now.formula.now.clauses < v.first) (sym c.self.view_is) c.requires.past

pub clause_of_chain-clause-requires-clause-chain : goal.clause_of_chain-clause-requires-clause-chain
clause_of_chain-clause-requires-clause-chain c =
    subst (λ (v : Derivation). IsSome (chain_clause (premises_of c.args.over.now v.steps) c.args.first c.args.turns.now)) (sym c.self.view_is) c.requires.chain

pub overflow_add-number : goal.overflow_add-number
overflow_add-number c =
    let room : c.self.inside.first + length c.self.inside.steps.items < 2 ^ 64 - 1 = subst (λ (v : Derivation). v.first + length v.steps < 2 ^ 64 - 1) (sym c.self.view_is) c.requires.room in
    record { fits = omega (arith, room, c.len.ensures) }

pub invariant_of-self : goal.invariant_of-self
invariant_of-self c = c.self.invariant

pub returns-clause-number : goal.returns-clause-number
returns-clause-number c =
    let at = ap next_number c.self.view_is in
    let len = c.len.ensures in
    let held = c.self.inside.steps.ok in
    omega (arith, at, len, held)
