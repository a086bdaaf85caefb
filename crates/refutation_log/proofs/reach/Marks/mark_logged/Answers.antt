use Rattle.std.proofs.Common.{ℕ, ◌≡◌, ◌+◌, ◌++◌, ◌∷◌, ◌∙◌, List, subst, arith, nat_lt, length, map, take, true}
use Rattle.std.specs.List.{list_all}
use Rattle.std.proofs.lemmas.List.{take_all}
use Rattle.lk_model.specs.declared.document.Turn.{Turn}
use Rattle.refutation_log.specs.Marks.{AreMarks}
use Rattle.lk_model.proofs.Booleans.{and_true}
use Rattle.refutation_log.proofs.Marking.{turn_below, turn_marked, HaveSameShape-trans}
use Rattle.refutation_log.proofs.reach.Marks.mark_logged.Goals as goal

pub mark-requires-in-loop-at : goal.mark-requires-in-loop-at
mark-requires-in-loop-at c =
    let self = c.args.self.now in
    let bound = self.first + length self.steps.items in
    let step = c.args.step.now in
    let all : list_all (λ k. nat_lt k bound) (map (λ (t : Turn). t.with) c.turns-turns.result.now) ≡ true =
    rw (c.turns-turns.ensures) (and_true (nat_lt step.first bound) (list_all (λ k. nat_lt k bound) (map (λ (t : Turn). t.with) step.turns)) c.requires).1 in
    let below = turn_below bound c.turns-turns.result.now c.loop-at.at c.get.result all (omega (arith, c.len-at-end.ensures)) c.get.ensures in
    omega (arith, below, c.loop-at.invariant.shape.first, c.loop-at.invariant.shape.steps)

pub loop-at-init : goal.loop-at-init
loop-at-init c = record {
  shape = c.mark.ensures.shape;
  marks = λ known h. subst (λ (k : ℕ). AreMarks (k ∷ known) c.mark.new.self) c.first.ensures (c.mark.ensures.marks known h);
}

pub loop-at-preserved : goal.loop-at-preserved
loop-at-preserved c = record {
  shape = HaveSameShape-trans c.args.self.now c.loop-at.self c.mark-in-loop-at.new.self c.loop-at.invariant.shape c.mark-in-loop-at.ensures.shape;
  marks = λ known h.
      turn_marked c.args.step.now.first c.turns-turns.result.now c.loop-at.at c.get.result known c.mark-in-loop-at.new.self (omega (arith, c.len-at-end.ensures)) c.get.ensures
      (c.mark-in-loop-at.ensures.marks _ (c.loop-at.invariant.marks known h));
}

pub returns-clause-marks : goal.returns-clause-marks
returns-clause-marks c known h =
    let turns = c.turns-turns.result.now in
    let whole : take c.loop-at.at turns ≡ c.args.step.now.turns = take_all c.loop-at.at turns (omega (arith, c.len-at-end.ensures)) ∙ c.turns-turns.ensures in
    subst (λ (ts : List Turn). AreMarks ((c.args.step.now.first ∷ map (λ (t : Turn). t.with) ts) ++ known) c.loop-at.self) whole (c.loop-at.invariant.marks known h)
