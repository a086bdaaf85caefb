use Rattle.std.proofs.Common.{◌∙◌, ℕ, not, is_some, find, sym, ap, subst}
use Rattle.mus_core.specs.declared.shrinking.LeftOut.{LeftOut}
use Rattle.mus_core.specs.Shrinking.{IsLeftOut}
use Rattle.mus_core.specs.WitnessValues.{witness_at}
use Rattle.mus_core.proofs.ShrunkCores.{next}
use Rattle.mus_core.proofs.shrinking.shrink_by.Goals as goal

pub told_core-requires-clause-each : goal.told_core-requires-clause-each
told_core-requires-clause-each c =
    ap (find (λ (p : ℕ). not (is_some (witness_at c.clauses.witnesses p)))) (sym c.as_slice.ensures) ∙ sym c.first_open.ensures ∙ c.in-None.is

pub leave_out-requires-clause-next : goal.leave_out-requires-clause-next
leave_out-requires-clause-next c =
    next c.args.core.now c.args.conflicts c.clauses.refutation c.clauses.witnesses c.in-Some.p c.clauses.invariant
    (ap (find (λ (p : ℕ). not (is_some (witness_at c.clauses.witnesses p)))) (sym c.as_slice.ensures) ∙ sym c.first_open.ensures ∙ c.in-Some.is)

pub clauses-smaller : goal.clauses-smaller
clauses-smaller c =
    (subst (λ (t : LeftOut). IsLeftOut c.args.core.now c.args.conflicts c.clauses.refutation c.clauses.witnesses c.leave_out.new.witnesses t) c.in-On.is c.in_ok-leave_out-in-Some.ensures).1

pub clauses-preserved : goal.clauses-preserved
clauses-preserved c =
    (subst (λ (t : LeftOut). IsLeftOut c.args.core.now c.args.conflicts c.clauses.refutation c.clauses.witnesses c.leave_out.new.witnesses t) c.in-On.is c.in_ok-leave_out-in-Some.ensures).0
