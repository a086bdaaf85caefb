use Rattle.std.proofs.Common.{take}
use Rattle.autarky_compose.specs.JoinedMatching.{AreMatchingResults}
use Rattle.test_parts.proofs.joining.kernels.Given as goal

abbrev pub invariant-loop-part : goal.invariant-loop-part
invariant-loop-part l = AreMatchingResults l.f (take l.part-index l.list) l.found
