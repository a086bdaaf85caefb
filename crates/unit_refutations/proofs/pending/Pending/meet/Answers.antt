use Rattle.std.proofs.Common.{rules, ◌≡◌, ◌∙◌, true, false, None, ℤ, ap, sym}
use Rattle.std.proofs.lemmas.List.{take_all}
use Rattle.lk_model.specs.Formulas.Literal.{variable, complement}
use Rattle.lk_model.specs.Formulas.Crossed.{crossed_out}
use Rattle.lk_model.specs.Held.VariableSets.{is_in}
use Rattle.unit_refutations.specs.Trails.{place_of}
use Rattle.unit_refutations.proofs.Crossings.{crossed_gone, crossed_more}
use Rattle.unit_refutations.proofs.Meeting.{no_places, met_same, met_none, met_more}
use Rattle.unit_refutations.proofs.pending.Pending.meet.Goals as goal
use Rattle.unit_refutations.proofs.pending.Pending.meet.Goals.{then-not-has+in-Some+in_ok-push, then-not-has+in_default, else-not-has}

pub loop-l-init : goal.loop-l-init
loop-l-init c = no_places c.args.trail.now c.args.self.now

pub loop-l-preserved : goal.loop-l-preserved
loop-l-preserved c =
    let t = c.args.trail.now in
    let b = is_in c.args.blocked.now in
    let clause = c.args.clause.now in
    let i = c.loop-l.l-index in
    let l = c.l-item.result in
    elim c.if-not-has.branch [
      | then-not-has+in-Some+in_ok-push w ↦
          let left : is_in c.args.blocked.now (variable c.l-item.result) ≡ false = search rules in
          met_more t _ _ l c.args.self.now c.loop-l.self w.push.new.self _ w.in-Some.place (crossed_more b clause i l c.loop-l-test.true c.l-item.is left)
          (ap (place_of t) (sym w.negated.ensures) ∙ sym w.place.ensures ∙ w.in-Some.is) w.self-is w.in_ok-push.ensures c.loop-l.invariant
      | then-not-has+in_default w ↦
          let left : is_in c.args.blocked.now (variable c.l-item.result) ≡ false = search rules in
          let none : place_of c.args.trail.now (complement c.l-item.result) ≡ None = search rules in
          met_none t _ _ l c.args.self.now c.loop-l.self _ (crossed_more b clause i l c.loop-l-test.true c.l-item.is left) none w.self-is c.loop-l.invariant
      | else-not-has w ↦
          let gone : is_in c.args.blocked.now (variable c.l-item.result) ≡ true = search rules in
          met_same t _ _ c.args.self.now c.loop-l.self _ (crossed_gone b clause i l c.loop-l-test.true c.l-item.is gone) w.self-is c.loop-l.invariant
    ]

pub returns : goal.returns
returns c = met_same c.args.trail.now _ _ c.args.self.now c.loop-l.self _
    (ap (crossed_out (is_in c.args.blocked.now)) (sym (take_all c.loop-l.l-index c.args.clause.now c.loop-l-test.false))) (let e : c.loop-l.self ≡ c.loop-l.self = search rules in e) c.loop-l.invariant
