use Rattle.std.proofs.Common.{◌-◌, suc, nat_lt, nat_le, subst, arith, IsTrue, IsSome}
use Rattle.std.proofs.lemmas.Bool.{leb-true, le-leb}
use Rattle.refutation_log.specs.Derivation.{Derivation, clause_of_step}
use Rattle.refutation_log.proofs.Steps.{found_within, stands_within}
use Rattle.refutation_log.proofs.log.Log.has.Goals as goal

pub returns-then-k-self : goal.returns-then-k-self
returns-then-k-self c =
    let first = c.self.inside.first in
    let steps = c.self.inside.steps.items in
    let k = c.args.k in
    let numbers = c.self.invariant.derivation.numbers in
    let held = c.self.inside.steps.ok in
    let len = c.len.ensures in
    let from = c.if-k-self.true in
    subst (λ (d : Derivation). (IsTrue (nat_lt (k - first) c.len.result) → IsSome (clause_of_step d.steps k)) × (IsSome (clause_of_step d.steps k) → IsTrue (nat_lt (k - first) c.len.result))) c.self.view_is (
      λ t. (let lt = leb-true (suc (k - first)) c.len.result t in stands_within first steps k numbers (omega (arith, from)) (omega (arith, lt, len, held, from))),
      λ s. (let w = found_within first steps k numbers s in le-leb (suc (k - first)) c.len.result (omega (arith, w.0, w.1, len, held))),
    )

pub returns-else-k-self : goal.returns-else-k-self
returns-else-k-self c =
    let first = c.self.inside.first in
    let steps = c.self.inside.steps.items in
    let k = c.args.k in
    let numbers = c.self.invariant.derivation.numbers in
    let below = c.if-k-self.false in
    subst (λ (d : Derivation). (IsTrue (nat_le first k) → IsSome (clause_of_step d.steps k)) × (IsSome (clause_of_step d.steps k) → IsTrue (nat_le first k))) c.self.view_is
    (λ t. absurd (let le = leb-true first k t in omega (arith, le, below)), λ s. (let w = found_within first steps k numbers s in le-leb first k w.0))
