use Rattle.std.proofs.Common.{◌≡◌, drop}
use Rattle.lk_model.specs.Lists.{rises_within}
use Rattle.lk_model.proofs.formula.rise_within.Given as goal

-- the numbers from here on decide
abbrev pub invariant-loop-n : goal.invariant-loop-n
invariant-loop-n l = rises_within 0 l.last l.numbers ≡ rises_within l.low l.last (drop l.n-index l.numbers)
