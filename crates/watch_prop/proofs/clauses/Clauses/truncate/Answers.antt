use Rattle.std.proofs.Common.{◌≡◌, ◌≤◌, ◌∙◌, ℕ, List, length, take, ap, subst, arith}
use Rattle.lk_model.specs.Held.Flat.{AreEnds, begin_of}
use Rattle.watch_prop.proofs.Flat.{held_length, held_take}
use Rattle.watch_prop.proofs.clauses.Clauses.truncate.Goals as goal

pub begin_at-begin-requires-clause-ends : goal.begin_at-begin-requires-clause-ends
begin_at-begin-requires-clause-ends c =
    rw (c.deref.ensures.value) (subst (λ (n : ℕ). AreEnds 0 c.self.inside.ends.items n) (let same : length c.self.inside.lits.items ≡ c.len.result = omega arith in same) c.self.invariant.cuts)

pub begin_at-begin-requires-clause-place : goal.begin_at-begin-requires-clause-place
begin_at-begin-requires-clause-place c =
    let long = held_length c.self.inside c.args.self.now c.self.view_is c.self.invariant in
    rw (c.deref.ensures.value) (omega (arith, long, c.requires))

pub invariant_of-self : goal.invariant_of-self
invariant_of-self c =
    let lt = c.requires in
    (held_take c.self.inside (record { numbers = c.truncate.new.self; lits = c.truncate-2.new.self; ends = c.truncate-3.new.self }) c.args.self.now c.args.len c.self.view_is c.self.invariant (let le : c.args.len ≤ length c.args.self.now = omega (arith, lt) in le) c.truncate.ensures.items
    (c.truncate-2.ensures.items ∙ ap (λ (n : ℕ). take n c.self.inside.lits.items) (c.begin_at-begin.ensures.value ∙ ap (λ (es : List ℕ). begin_of 0 es c.args.len) c.deref.ensures.value))
    c.truncate-3.ensures.items).0

pub returns : goal.returns
returns c =
    let lt = c.requires in
    (held_take c.self.inside (record { numbers = c.truncate.new.self; lits = c.truncate-2.new.self; ends = c.truncate-3.new.self }) c.args.self.now c.args.len c.self.view_is c.self.invariant (let le : c.args.len ≤ length c.args.self.now = omega (arith, lt) in le) c.truncate.ensures.items
    (c.truncate-2.ensures.items ∙ ap (λ (n : ℕ). take n c.self.inside.lits.items) (c.begin_at-begin.ensures.value ∙ ap (λ (es : List ℕ). begin_of 0 es c.args.len) c.deref.ensures.value))
    c.truncate-3.ensures.items).1
