use Rattle.std.proofs.Common.{◌≡◌, take}
use Rattle.linear_kernel.specs.Weights.{left_by}
use Rattle.linear_kernel.proofs.weighted.left_by.Given as goal

-- those of the positions so far
abbrev pub invariant-loop-p : goal.invariant-loop-p
invariant-loop-p l = l.rest ≡ left_by l.f l.set (take l.p-index l.kept)
