use Rattle.std.proofs.Common.{ℕ, ◌++◌, ◌∷◌, List, map, take}
use Rattle.lk_model.specs.declared.document.Turn.{Turn}
use Rattle.refutation_log.specs.Marks.{AreMarks, HaveSameShape}
use Rattle.refutation_log.proofs.reach.Marks.mark_logged.Given as goal

abbrev pub invariant-loop-at : goal.invariant-loop-at
invariant-loop-at l = record {
  shape : HaveSameShape l.fn.self l.self;
  marks : (known : List ℕ) → AreMarks known l.fn.self → AreMarks ((l.step.first ∷ map (λ (t : Turn). t.with) (take l.at l.turns)) ++ known) l.self;
}
