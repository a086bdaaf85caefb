use Rattle.std.proofs.Common.{◌≡◌, false, ◌∙◌, List, not, length, get_or, sym, ap, subst, arith, ℕ}
use Rattle.lk_model.specs.Held.VariableSets.{is_in}
use Rattle.lk_model.specs.Lists.{among}
use Rattle.lk_model.proofs.Rising.{rising_bounds}
use Rattle.watch_prop.specs.declared.entry.NumberedClause.{NumberedClause}
use Rattle.watch_prop.specs.Propagation.{Propagation, numbers_of}
use Rattle.watch_prop.proofs.Beginnings.{numbers_before, may_hold}
use Rattle.watch_prop.proofs.propagator.Propagator.hold_part.Goals as goal

pub clause-requires-clause-first : goal.clause-requires-clause-first
clause-requires-clause-first c = (rising_bounds 0 (length c.args.over.now.formula.now.clauses) c.args.over.now.part.now c.loop-p.p-index c.requires.crossed.part c.loop-p-test.true).0

pub clause-requires-clause-last : goal.clause-requires-clause-last
clause-requires-clause-last c = (rising_bounds 0 (length c.args.over.now.formula.now.clauses) c.args.over.now.part.now c.loop-p.p-index c.requires.crossed.part c.loop-p-test.true).1

pub hold-requires-clause-clause : goal.hold-requires-clause-clause
hold-requires-clause-clause c =
    let over = c.args.over.now in
    let some = c.if-len-gt0.true in
    may_hold (is_in over.blocked.now) c.loop-p.self.vars over.formula.now.vars c.clause.result.now c.deref.result.now
    (ap (λ (p : Propagation). p.vars) c.loop-p.invariant ∙ c.requires.vars) c.clause.ensures.clause (c.deref.ensures.value ∙ c.in_ok-cross_out.ensures)
    (omega (arith, some, c.len.ensures, c.deref.ensures.len))

pub hold-requires-clause-fresh : goal.hold-requires-clause-fresh
hold-requires-clause-fresh c =
    let over = c.args.over.now in
    let none = numbers_before over.formula.now (is_in over.blocked.now) 0 (length over.formula.now.clauses) over.part.now c.loop-p.p-index c.requires.crossed.part c.loop-p-test.true in
    let here = subst (λ (cs : List NumberedClause). among (numbers_of cs) (get_or over.part.now c.loop-p.p-index 0) ≡ false) (sym (ap (λ (p : Propagation). p.clauses) c.loop-p.invariant)) none in
    ap not (subst (λ (k : ℕ). among (numbers_of c.loop-p.self.clauses) k ≡ false) (sym c.from.ensures) here)
