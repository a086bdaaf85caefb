use Rattle.std.proofs.Common.{◌≡◌, ◌+◌, ◌||◌, ◌≤◌, arith, ◌∙◌, ap, sym, subst}
use Rattle.std.specs.List.{All}
use Rattle.lk_model.specs.Limits.{max_vars}
use Rattle.lk_model.specs.Formulas.Formula.{variable_occurs}
use Rattle.lk_model.specs.Held.VariableSets.{is_in}
use Rattle.lk_model.proofs.VariableLists.{none_in, filter_took, filter_left, took_within}
use Rattle.lk_model.proofs.formula.Formula.occurring.Goals.{then-has+in_ok-push, else-has}
use Rattle.lk_model.proofs.formula.Formula.occurring.Goals as goal

pub loop-v-preserved : goal.loop-v-preserved
loop-v-preserved c =
    let occurs = variable_occurs c.args.self.now c.args.part.now in
    let v = c.loop-v.v in
    let has : c.has.result ≡ occurs (v + 1) = c.has.ensures ∙ c.add_clauses.ensures.vars (v + 1) ∙ ap (λ b. b || occurs (v + 1)) (ap (λ fs. is_in fs (v + 1)) c.in_ok-seen.ensures ∙ none_in _ (v + 1)) in
    elim c.if-has.branch [
      | then-has+in_ok-push w ↦ (let after = w.vars-is ∙ w.in_ok-push.ensures.ok in record {
        value = filter_took occurs v c.loop-v.vars c.if-has.vars c.loop-v.invariant.value (sym has ∙ w.if-has.true) after;
        range = took_within max_vars v c.loop-v.vars c.if-has.vars c.loop-v.invariant.range (omega (arith, c.vars.ensures.limits.vars, c.vars-v-end.ensures.value, c.loop-v-test.true)) after;
      })
      | else-has w ↦ record {
        value = filter_left occurs v c.loop-v.vars c.if-has.vars c.loop-v.invariant.value (sym has ∙ w.if-has.false) w.vars-is;
        range = subst (All (λ v. v ≤ max_vars)) (sym w.vars-is) c.loop-v.invariant.range;
      }
    ]
