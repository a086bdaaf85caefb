use Rattle.std.proofs.Common.{◌≡◌, length}
use Rattle.elimination.proofs.extending.make_all_true.Given as goal

abbrev pub invariant-loop-l : goal.invariant-loop-l
invariant-loop-l l = length l.values ≡ length l.initial.values
