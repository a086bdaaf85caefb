use Rattle.std.proofs.Common.{◌≡◌, ◌+◌, ◌++◌, ◌∷◌, ◌∙◌, List, subst, arith, nat_lt, length, map, take, true}
use Rattle.std.specs.List.{list_all}
use Rattle.std.proofs.lemmas.List.{take_all}
use Rattle.lk_model.specs.declared.document.Turn.{Turn}
use Rattle.refutation_log.specs.Marks.{AreMarks}
use Rattle.lk_model.proofs.Booleans.{and_true}
use Rattle.refutation_log.proofs.Marking.{turn_below, turn_marked, HaveSameShape-trans}
use Rattle.refutation_log.proofs.reach.Marks.mark_names.Goals as goal

pub mark-requires-in-loop-turn : goal.mark-requires-in-loop-turn
mark-requires-in-loop-turn c =
    let self = c.args.self.now in
    let bound = self.first + length self.steps.items in
    let step = c.args.step.now in
    let all : list_all (λ k. nat_lt k bound) (map (λ (t : Turn). t.with) c.as_slice-turn-items.result.now) ≡ true =
    rw (c.as_slice-turn-items.ensures) (and_true (nat_lt step.first bound) (list_all (λ k. nat_lt k bound) (map (λ (t : Turn). t.with) step.turns)) c.requires).1 in
    let below = turn_below bound c.as_slice-turn-items.result.now c.loop-turn.turn-index c.turn-item.result all (omega arith) c.turn-item.is in
    omega (arith, below, c.loop-turn.invariant.shape.first, c.loop-turn.invariant.shape.steps)

pub loop-turn-preserved : goal.loop-turn-preserved
loop-turn-preserved c = record {
  shape = HaveSameShape-trans c.args.self.now c.loop-turn.self c.mark-in-loop-turn.new.self c.loop-turn.invariant.shape c.mark-in-loop-turn.ensures.shape;
  marks = λ known h.
      turn_marked c.args.step.now.first c.as_slice-turn-items.result.now c.loop-turn.turn-index c.turn-item.result known c.mark-in-loop-turn.new.self (omega arith) c.turn-item.is
      (c.mark-in-loop-turn.ensures.marks _ (c.loop-turn.invariant.marks known h));
}

pub returns-clause-marks : goal.returns-clause-marks
returns-clause-marks c known h =
    let turns = c.as_slice-turn-items.result.now in
    let whole : take c.loop-turn.turn-index turns ≡ c.args.step.now.turns = take_all c.loop-turn.turn-index turns (omega arith) ∙ c.as_slice-turn-items.ensures in
    subst (λ (ts : List Turn). AreMarks ((c.args.step.now.first ∷ map (λ (t : Turn). t.with) ts) ++ known) c.loop-turn.self) whole (c.loop-turn.invariant.marks known h)
