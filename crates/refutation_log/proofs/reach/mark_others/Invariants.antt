use Rattle.std.proofs.Common.{◌<◌, length, drop}
use Rattle.lk_model.specs.Chains.Rounds.{reached}
use Rattle.refutation_log.specs.Marks.{AreMarks, HaveSameShape}
use Rattle.refutation_log.proofs.reach.mark_others.Given as goal

abbrev pub invariant-loop-at : goal.invariant-loop-at
invariant-loop-at g l = record {
  within : l.at < length (g.S.Chains.steps l.steps);
  shape : HaveSameShape l.fn.marks l.marks;
  marks : AreMarks (reached (drop l.at (g.S.Chains.steps l.steps))) l.marks;
}

abbrev pub decreases-loop-at : goal.decreases-loop-at
decreases-loop-at g l = l.at
