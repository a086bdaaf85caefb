use Rattle.std.proofs.Common.{ℤ, ℕ, ◌∙◌, List, [], get_or, sym, ap, arith}
use Rattle.lk_model.specs.Held.Flat.{cut}
use Rattle.watch_prop.specs.declared.entry.NumberedClause.{NumberedClause}
use Rattle.watch_prop.proofs.Flat.{held_length, held_at}
use Rattle.watch_prop.proofs.clauses.Clauses.lits.Goals as goal

pub list_at-requires-clause-ends : goal.list_at-requires-clause-ends
list_at-requires-clause-ends c = rw (c.deref.ensures.value, c.deref-2.ensures.value) c.self.invariant.cuts

pub list_at-requires-clause-place : goal.list_at-requires-clause-place
list_at-requires-clause-place c =
    let long = held_length c.self.inside c.args.self.now c.self.view_is c.self.invariant in
    rw (c.deref-2.ensures.value) (omega (arith, long, c.requires))

pub returns : goal.returns
returns c =
    c.list_at.ensures
    ∙ ap (λ (ls : List ℤ). get_or (cut 0 ls c.deref-2.result.now) c.args.place []) c.deref.ensures.value
    ∙ ap (λ (es : List ℕ). get_or (cut 0 c.self.inside.lits.items es) c.args.place []) c.deref-2.ensures.value
    ∙ sym (ap (λ (h : NumberedClause). h.lits) (held_at c.self.inside c.args.self.now c.args.place c.self.view_is c.self.invariant c.requires))
