use Rattle.std.proofs.Common.{◌≡◌, length}
use Rattle.lk_samples.proofs.given.set_of.Given as goal

abbrev pub invariant-loop-v : goal.invariant-loop-v
invariant-loop-v l = length l.set ≡ l.n
