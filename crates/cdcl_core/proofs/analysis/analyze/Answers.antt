use Rattle.std.proofs.Common.{◌≡◌, ◌≢◌, ◌∙◌, ℕ, ◌-◌, ◌<◌, ◌==◌, ◌++◌, ◌∷◌, [], true, false, not, ◌&&◌, List, ℤ, Some, None, length, sym, ap, subst, arith}
use Rattle.std.proofs.lemmas.List.{length-map}
use Rattle.lk_model.specs.Formulas.Literal.{variable}
use Rattle.lk_model.specs.Held.VariableSets.{is_in}
use Rattle.lk_model.specs.declared.document.Turn.{Turn}
use Rattle.lk_model.proofs.Ranks.{literal_bounds}
use Rattle.watch_prop.specs.declared.entry.Entry.{Entry}
use Rattle.watch_prop.specs.Trail.{reason_of, present_level}
use Rattle.learning_laws.specs.PlaceLaw.{count_at}
use Rattle.learning_laws.specs.WalkLaw.{turn_on}
use Rattle.cdcl_core.specs.Marking.{AreMarksOf}
use Rattle.cdcl_core.specs.Backward.{WalksBack}
use Rattle.cdcl_core.proofs.Walks.{walk_starts, walk_passes, walk_stops, walk_ends, walk_forced, walk_resolves, some_met, walk_few, held_literals, is_on_walk}
use Rattle.cdcl_core.proofs.analysis.analyze.Goals as goal
use Rattle.cdcl_core.proofs.analysis.analyze.Goals.{else-present-gt0-via-then-present-gt0+else-unresolved-eq1, else-present-gt0-via-else-present-gt0}

pub meet-unresolved-requires-clause-lits : goal.meet-unresolved-requires-clause-lits
meet-unresolved-requires-clause-lits c = held_literals c.args.p.now c.args.conflict c.clause.result.now c.requires.held c.clause.ensures

pub loop-place-init : goal.loop-place-init
loop-place-init c =
    let p = c.args.p.now in
    let marks' = c.meet-unresolved.new.marks in
    let count = subst (λ (n : ℕ). (d : List ℤ) → AreMarksOf d c.args.marks.now → 0 ≡ count_at c.args.p.now.trail n d
    → c.meet-unresolved.result ≡ count_at c.args.p.now.trail n (c.clause.result.now ++ d)) c.present_level-present.ensures.value c.meet-unresolved.ensures.count in
    let walk = walk_starts p c.args.conflict c.clause.result.now c.args.marks.now marks' c.meet-unresolved.result
    c.requires.held c.requires.quiet c.requires.conflict c.clause.ensures c.requires.clean c.meet-unresolved.ensures.marks count in
    let long : length c.trail-place.result.now ≡ length c.args.p.now.trail =
    ap (λ (ls : List ℤ). length ls) c.trail-place.ensures.value ∙ length-map c.args.p.now.trail (λ (e : Entry). e.lit) in
    record {
      size = c.meet-unresolved.ensures.size;
      walks = subst (λ (ts : List Turn). WalksBack c.args.p.now c.args.conflict ts c.meet-unresolved.new.marks c.meet-unresolved.result (length c.trail-place.result.now)) (sym c.new-turns.ensures.items)
          (subst (λ (n : ℕ). WalksBack c.args.p.now c.args.conflict [] c.meet-unresolved.new.marks c.meet-unresolved.result n) (sym long) walk);
    }

pub has-requires-clause-last : goal.has-requires-clause-last
has-requires-clause-last c =
    let o = is_on_walk c.args.p.now c.args.conflict c.loop-place.turns.items c.loop-place.marks c.loop-place.unresolved c.loop-place.place c.trail-place.result.now c.trail.result.now
    c.index-trail-place.result c.requires.held c.trail-place.ensures.value c.trail.ensures.value (omega arith) (omega arith) c.index-trail-place.is c.loop-place.invariant.walks in
    let high = (literal_bounds c.args.p.now.vars c.index-trail-place.result o.literal).1 in
    let is = c.var.ensures.value in
    let size = c.loop-place.invariant.size in
    let vars = c.requires.size in
    omega (arith, high, is, size, vars)

pub returns-then-unresolved-eq1-clause-leads : goal.returns-then-unresolved-eq1-clause-leads
returns-then-unresolved-eq1-clause-leads c =
    let p = c.args.p.now in
    let l = c.index-trail-place.result in
    let i = c.loop-place.place - 1 in
    let o = is_on_walk c.args.p.now c.args.conflict c.loop-place.turns.items c.loop-place.marks c.loop-place.unresolved c.loop-place.place c.trail-place.result.now c.trail.result.now
    c.index-trail-place.result c.requires.held c.trail-place.ensures.value c.trail.ensures.value (omega arith) (omega arith) c.index-trail-place.is c.loop-place.invariant.walks in
    let marked : is_in c.loop-place.marks (variable c.index-trail-place.result) ≡ true = ap (is_in c.loop-place.marks) (sym c.var.ensures.value) ∙ sym c.has.ensures ∙ c.if-has.true in
    let above = c.if-present-gt0.true in
    let present = c.present_level-present.ensures.value in
    walk_stops p c.args.conflict c.loop-place.turns.items c.loop-place.marks c.loop-place.unresolved i l c.requires.held o.inside o.read marked (omega (arith, above, present)) c.if-unresolved-eq1.true o.walk

pub meet-unresolved-requires-in-Some-clause-lits : goal.meet-unresolved-requires-in-Some-clause-lits
meet-unresolved-requires-in-Some-clause-lits c = held_literals c.args.p.now c.in-Some.with c.clause-in-Some.result.now c.requires.held c.clause-in-Some.ensures

pub meet-unresolved-requires-in-Some-clause-room : goal.meet-unresolved-requires-in-Some-clause-room
meet-unresolved-requires-in-Some-clause-room c =
    walk_few c.args.p.now c.args.conflict c.loop-place.turns.items c.loop-place.marks c.loop-place.unresolved c.loop-place.place c.requires.held c.requires.named c.loop-place.invariant.walks

pub overflow_sub-unresolved : goal.overflow_sub-unresolved
overflow_sub-unresolved c =
    let p = c.args.p.now in
    let l = c.index-trail-place.result in
    let i = c.loop-place.place - 1 in
    let o = is_on_walk c.args.p.now c.args.conflict c.loop-place.turns.items c.loop-place.marks c.loop-place.unresolved c.loop-place.place c.trail-place.result.now c.trail.result.now
    c.index-trail-place.result c.requires.held c.trail-place.ensures.value c.trail.ensures.value (omega arith) (omega arith) c.index-trail-place.is c.loop-place.invariant.walks in
    let marked : is_in c.loop-place.marks (variable c.index-trail-place.result) ≡ true = ap (is_in c.loop-place.marks) (sym c.var.ensures.value) ∙ sym c.has.ensures ∙ c.if-has.true in
    let present = c.present_level-present.ensures.value in
    let apart : 0 < present_level c.args.p.now.trail → c.loop-place.unresolved ≢ 1 = λ above. elim c.else-present-gt0.branch [
      | else-present-gt0-via-then-present-gt0+else-unresolved-eq1 w ↦ w.if-unresolved-eq1.false
      | else-present-gt0-via-else-present-gt0 w ↦ let low = w.if-present-gt0.false in absurd (omega (arith, above, low, present))
    ] in
    let reason : reason_of c.args.p.now.trail (variable c.index-trail-place.result) ≡ Some c.in-Some.with =
    ap (reason_of c.args.p.now.trail) (sym c.var-then-has.ensures.value) ∙ sym c.reason.ensures.value ∙ c.in-Some.is in
    let count = subst (λ (n : ℕ). (d : List ℤ) → AreMarksOf d c.loop-place.marks → c.loop-place.unresolved ≡ count_at c.args.p.now.trail n d
    → c.meet-unresolved-in-Some.result ≡ count_at c.args.p.now.trail n (c.clause-in-Some.result.now ++ d)) c.present_level-present.ensures.value c.meet-unresolved-in-Some.ensures.count in
    some_met p c.args.conflict c.loop-place.turns.items c.loop-place.marks c.loop-place.unresolved c.meet-unresolved-in-Some.result i l c.in-Some.with c.clause-in-Some.result.now
    c.requires.held c.requires.named o.inside o.read marked apart reason c.clause-in-Some.ensures count o.walk

pub loop-place-preserved-in-Some : goal.loop-place-preserved-in-Some
loop-place-preserved-in-Some c =
    let p = c.args.p.now in
    let l = c.index-trail-place.result in
    let i = c.loop-place.place - 1 in
    let o = is_on_walk c.args.p.now c.args.conflict c.loop-place.turns.items c.loop-place.marks c.loop-place.unresolved c.loop-place.place c.trail-place.result.now c.trail.result.now
    c.index-trail-place.result c.requires.held c.trail-place.ensures.value c.trail.ensures.value (omega arith) (omega arith) c.index-trail-place.is c.loop-place.invariant.walks in
    let marked : is_in c.loop-place.marks (variable c.index-trail-place.result) ≡ true = ap (is_in c.loop-place.marks) (sym c.var.ensures.value) ∙ sym c.has.ensures ∙ c.if-has.true in
    let present = c.present_level-present.ensures.value in
    let apart : 0 < present_level c.args.p.now.trail → c.loop-place.unresolved ≢ 1 = λ above. elim c.else-present-gt0.branch [
      | else-present-gt0-via-then-present-gt0+else-unresolved-eq1 w ↦ w.if-unresolved-eq1.false
      | else-present-gt0-via-else-present-gt0 w ↦ let low = w.if-present-gt0.false in absurd (omega (arith, above, low, present))
    ] in
    let reason : reason_of c.args.p.now.trail (variable c.index-trail-place.result) ≡ Some c.in-Some.with =
    ap (reason_of c.args.p.now.trail) (sym c.var-then-has.ensures.value) ∙ sym c.reason.ensures.value ∙ c.in-Some.is in
    let count = subst (λ (n : ℕ). (d : List ℤ) → AreMarksOf d c.loop-place.marks → c.loop-place.unresolved ≡ count_at c.args.p.now.trail n d
    → c.meet-unresolved-in-Some.result ≡ count_at c.args.p.now.trail n (c.clause-in-Some.result.now ++ d)) c.present_level-present.ensures.value c.meet-unresolved-in-Some.ensures.count in
    let items : c.push.new.self.items ≡ c.loop-place.turns.items ++ turn_on c.index-trail-place.result c.in-Some.with ∷ [] =
    c.in_ok-push.ensures.items ∙ ap (λ (m : ℤ). c.loop-place.turns.items ++ (record { lit = m; with = c.in-Some.with }) ∷ []) c.negated-lit.ensures in
    record {
      size = c.remove.ensures.size ∙ c.meet-unresolved-in-Some.ensures.size ∙ c.loop-place.invariant.size;
      walks = subst (λ (ts : List Turn). WalksBack c.args.p.now c.args.conflict ts c.remove.new.self (c.meet-unresolved-in-Some.result - 1) (c.loop-place.place - 1)) (sym items)
          (walk_resolves p c.args.conflict c.loop-place.turns.items c.loop-place.marks c.meet-unresolved-in-Some.new.marks c.remove.new.self c.loop-place.unresolved c.meet-unresolved-in-Some.result i l
          c.in-Some.with c.clause-in-Some.result.now c.requires.held o.inside o.read marked apart reason c.clause-in-Some.ensures c.meet-unresolved-in-Some.ensures.marks count
          (λ u. c.remove.ensures.vars u ∙ ap (λ (n : ℕ). is_in c.meet-unresolved-in-Some.new.marks u && not (u == n)) c.var-in-Some.ensures.value) o.walk);
    }

pub loop-place-preserved-in_default : goal.loop-place-preserved-in_default
loop-place-preserved-in_default c =
    let p = c.args.p.now in
    let l = c.index-trail-place.result in
    let i = c.loop-place.place - 1 in
    let o = is_on_walk c.args.p.now c.args.conflict c.loop-place.turns.items c.loop-place.marks c.loop-place.unresolved c.loop-place.place c.trail-place.result.now c.trail.result.now
    c.index-trail-place.result c.requires.held c.trail-place.ensures.value c.trail.ensures.value (omega arith) (omega arith) c.index-trail-place.is c.loop-place.invariant.walks in
    let marked : is_in c.loop-place.marks (variable c.index-trail-place.result) ≡ true = ap (is_in c.loop-place.marks) (sym c.var.ensures.value) ∙ sym c.has.ensures ∙ c.if-has.true in
    let present = c.present_level-present.ensures.value in
    let apart : 0 < present_level c.args.p.now.trail → c.loop-place.unresolved ≢ 1 = λ above. elim c.else-present-gt0.branch [
      | else-present-gt0-via-then-present-gt0+else-unresolved-eq1 w ↦ w.if-unresolved-eq1.false
      | else-present-gt0-via-else-present-gt0 w ↦ let low = w.if-present-gt0.false in absurd (omega (arith, above, low, present))
    ] in
    let none : reason_of c.args.p.now.trail (variable c.index-trail-place.result) ≡ None =
    ap (reason_of c.args.p.now.trail) (sym c.var-then-has.ensures.value) ∙ sym c.reason.ensures.value ∙ c.in_default.is in
    record {
      size = c.loop-place.invariant.size;
      walks = walk_forced p c.args.conflict c.loop-place.turns.items c.loop-place.turns.items c.loop-place.marks c.loop-place.marks c.loop-place.unresolved c.loop-place.unresolved i i l
          c.requires.held o.inside o.read marked apart none o.walk;
    }

pub loop-place-preserved : goal.loop-place-preserved
loop-place-preserved c =
    let p = c.args.p.now in
    let l = c.index-trail-place.result in
    let i = c.loop-place.place - 1 in
    let o = is_on_walk c.args.p.now c.args.conflict c.loop-place.turns.items c.loop-place.marks c.loop-place.unresolved c.loop-place.place c.trail-place.result.now c.trail.result.now
    c.index-trail-place.result c.requires.held c.trail-place.ensures.value c.trail.ensures.value (omega arith) (omega arith) c.index-trail-place.is c.loop-place.invariant.walks in
    let unmarked : is_in c.loop-place.marks (variable c.index-trail-place.result) ≡ false = ap (is_in c.loop-place.marks) (sym c.var.ensures.value) ∙ sym c.has.ensures ∙ c.if-has.false in
    record {
      size = c.loop-place.invariant.size;
      walks = walk_passes p c.args.conflict c.loop-place.turns.items c.loop-place.marks c.loop-place.unresolved i l c.requires.held o.inside o.read unmarked o.walk;
    }

pub returns-clause-leads : goal.returns-clause-leads
returns-clause-leads c =
    let done : c.loop-place.place ≡ 0 = omega arith in
    walk_ends c.args.p.now c.args.conflict c.loop-place.turns.items c.loop-place.marks c.loop-place.unresolved
    (subst (λ (n : ℕ). WalksBack c.args.p.now c.args.conflict c.loop-place.turns.items c.loop-place.marks c.loop-place.unresolved n) done c.loop-place.invariant.walks)
