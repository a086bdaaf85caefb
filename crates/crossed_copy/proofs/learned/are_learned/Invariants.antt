use Rattle.std.proofs.Common.{◌≡◌, true, take}
use Rattle.crossed_copy.specs.Learning.{are_learned}
use Rattle.crossed_copy.proofs.learned.are_learned.Given as goal

-- those so far learn
abbrev pub invariant-loop-i : goal.invariant-loop-i
invariant-loop-i l = are_learned l.over (take l.i l.steps) ≡ true
