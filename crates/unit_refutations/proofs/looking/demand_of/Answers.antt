use Rattle.std.proofs.Common.{rules, ◌≡◌, ◌∙◌, true, false, ℤ, Some, ap, sym}
use Rattle.std.proofs.lemmas.List.{take_all}
use Rattle.lk_model.specs.Formulas.Literal.{variable}
use Rattle.lk_model.specs.Formulas.Crossed.{crossed_out}
use Rattle.lk_model.specs.Held.VariableSets.{is_in}
use Rattle.unit_refutations.specs.declared.looking.Look.{Look}
use Rattle.unit_refutations.proofs.Crossings.{crossed_gone, crossed_more}
use Rattle.unit_refutations.proofs.Demands.{goes_further, same_look, looked}
use Rattle.unit_refutations.proofs.looking.demand_of.Goals as goal
use Rattle.unit_refutations.proofs.looking.demand_of.Goals.{then-not-has+in-Some, else-not-has}

pub loop-l-preserved : goal.loop-l-preserved
loop-l-preserved c =
    let b = is_in c.args.blocked.now in
    let clause = c.args.clause.now in
    let i = c.loop-l.l-index in
    let l = c.l-item.result in
    elim c.if-not-has.branch [
      | then-not-has+in-Some w ↦
          let left : is_in c.args.blocked.now (variable c.l-item.result) ≡ false = search rules in
          goes_further c.args.trail.now _ _ l c.loop-l.look _ _ (w.in-Some.is ∙ ap (λ (x : Look). Some x) (sym w.look-is)) w.look_further.ensures
          (crossed_more b clause i l c.loop-l-test.true c.l-item.is left) c.loop-l.invariant
      | else-not-has w ↦
          let gone : is_in c.args.blocked.now (variable c.l-item.result) ≡ true = search rules in
          same_look c.args.trail.now _ _ _ _ (crossed_gone b clause i l c.loop-l-test.true c.l-item.is gone) w.look-is c.loop-l.invariant
    ]

pub returns : goal.returns
returns c = looked c.args.trail.now _ _ c.loop-l.look
    (ap (crossed_out (is_in c.args.blocked.now)) (sym (take_all c.loop-l.l-index c.args.clause.now c.loop-l-test.false))) c.loop-l.invariant
