use Rattle.std.proofs.Common.{◌≤◌, ◌<◌, ◌+◌, ◌-◌, ◌∙◌, length, ap, subst, sym, arith, IsSome, Some, IsTrue}
use Rattle.lk_model.specs.declared.document.Step.{Step}
use Rattle.lk_model.proofs.ListTests.{all_at}
use Rattle.refutation_log.specs.Derivation.{Derivation, clause_of_step, is_ascending}
use Rattle.refutation_log.proofs.Steps.{found_within, clause_at_place}
use Rattle.refutation_log.proofs.log.Log.clause.Goals as goal

within : (c : goal.After-self) → (c.self.inside.first ≤ c.args.k) × (c.args.k < c.self.inside.first + length c.self.inside.steps.items)
within c = found_within c.self.inside.first c.self.inside.steps.items c.args.k c.self.invariant.derivation.numbers
    (subst (λ (d : Derivation). IsSome (clause_of_step d.steps c.args.k)) (sym c.self.view_is) c.requires)

pub overflow_sub-k : goal.overflow_sub-k
overflow_sub-k c = (within c).0

pub index-requires : goal.index-requires
index-requires c = let w = within c in omega (arith, w.0, w.1)

pub returns-clause-value : goal.returns-clause-value
returns-clause-value c =
    let steps = c.self.inside.steps.items in
    let w = found_within c.self.inside.first steps c.args.k c.self.invariant.derivation.numbers
    (subst (λ (d : Derivation). IsSome (clause_of_step d.steps c.args.k)) (sym c.self.view_is) c.requires) in
    ap (λ (d : Derivation). clause_of_step d.steps c.args.k) (sym c.self.view_is)
    ∙ clause_at_place c.self.inside.first steps c.args.k c.index.result.now c.self.invariant.derivation.numbers w.0 w.1 c.index.ensures
    ∙ ap Some (sym c.clause.ensures)

pub returns-clause-order : goal.returns-clause-order
returns-clause-order c =
    let steps = c.self.inside.steps.items in
    let w = found_within c.self.inside.first steps c.args.k c.self.invariant.derivation.numbers
    (subst (λ (d : Derivation). IsSome (clause_of_step d.steps c.args.k)) (sym c.self.view_is) c.requires) in
    let place = c.args.k - c.self.inside.first in
    rw (c.clause.ensures) (subst (λ (s : Step). IsTrue (is_ascending s.clause)) (sym c.index.ensures)
    (all_at (λ (s : Step). is_ascending s.clause) steps place c.index.result.now c.self.invariant.derivation.clauses (omega (arith, w.0, w.1))))
