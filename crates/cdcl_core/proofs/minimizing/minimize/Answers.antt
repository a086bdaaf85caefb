use Rattle.std.proofs.Common.{◌≡◌, ◌∙◌, ℕ, ◌-◌, ◌==◌, ◌++◌, ◌∷◌, [], not, ◌&&◌, List, ℤ, length, sym, ap, subst, arith}
use Rattle.lk_model.specs.Formulas.Literal.{variable}
use Rattle.lk_model.specs.Held.VariableSets.{is_in}
use Rattle.lk_model.specs.declared.document.Turn.{Turn}
use Rattle.lk_model.proofs.Ranks.{literal_bounds}
use Rattle.learning_laws.specs.WalkLaw.{turn_on}
use Rattle.cdcl_core.specs.Backward.{IsReasonWithin, LeadsBack}
use Rattle.cdcl_core.proofs.Walks.{is_read}
use Rattle.cdcl_core.proofs.Shortening.{shortens}
use Rattle.cdcl_core.proofs.minimizing.minimize.Goals as goal

pub reason_within-requires-clause-last : goal.reason_within-requires-clause-last
reason_within-requires-clause-last c =
    let o = is_read c.args.p.now c.trail-trail.result.now (c.loop-place.place - 1) c.index-trail-place.result c.requires.held c.trail-trail.ensures.value (omega arith) c.index-trail-place.is in
    let high = (literal_bounds c.args.p.now.vars c.index-trail-place.result o.literal).1 in
    let is = c.var.ensures.value in
    omega (arith, high, is)

pub reason_within-requires-clause-size : goal.reason_within-requires-clause-size
reason_within-requires-clause-size c = c.loop-place.invariant.size ∙ c.requires.size

pub loop-place-preserved-in-Some : goal.loop-place-preserved-in-Some
loop-place-preserved-in-Some c =
    let o = is_read c.args.p.now c.trail-trail.result.now (c.loop-place.place - 1) c.index-trail-place.result c.requires.held c.trail-trail.ensures.value (omega arith) c.index-trail-place.is in
    let within : IsReasonWithin c.args.p.now (variable c.index-trail-place.result) c.in-Some.with c.loop-place.marks =
    subst (λ (v : ℕ). IsReasonWithin c.args.p.now v c.in-Some.with c.loop-place.marks) c.var.ensures.value c.in-Some.ensures in
    let items : c.push.new.self.items ≡ c.loop-place.turns.items ++ turn_on c.index-trail-place.result c.in-Some.with ∷ [] =
    c.in_ok-push.ensures.items ∙ ap (λ (m : ℤ). c.loop-place.turns.items ++ (record { lit = m; with = c.in-Some.with }) ∷ []) c.negated-lit.ensures in
    record {
      size = c.remove.ensures.size ∙ c.loop-place.invariant.size;
      leads = λ conflict before. subst (λ (ts : List Turn). LeadsBack c.args.p.now conflict ts c.remove.new.self) (sym items)
          (shortens c.args.p.now conflict c.loop-place.turns.items c.loop-place.marks c.remove.new.self (c.loop-place.place - 1) c.in-Some.with c.index-trail-place.result
          c.requires.held c.requires.above o.inside o.read within
          (λ u. c.remove.ensures.vars u ∙ ap (λ (n : ℕ). is_in c.loop-place.marks u && not (u == n)) c.var-in-Some.ensures.value) (c.loop-place.invariant.leads conflict before));
    }
