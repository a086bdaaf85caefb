use Rattle.std.proofs.Common.{◌≡◌, length, take}
use Rattle.check_rounds.specs.Index.{AreStepsListed, KeepsListed}
use Rattle.check_rounds.proofs.index.Index.add_steps.Given as goal

-- the steps so far are found, and what was found before
abbrev pub invariant-loop-i : goal.invariant-loop-i
invariant-loop-i l = record {
  size : length l.self ≡ length l.fn.self;
  found : AreStepsListed l.blocks l.self (take l.i l.steps);
  kept : KeepsListed l.blocks l.fn.self l.self;
}
