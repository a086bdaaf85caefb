use Rattle.std.proofs.Common.{◌≡◌, take}
use Rattle.autarky_compose.specs.JoinedGeneral.{all_set}
use Rattle.test_parts.proofs.joinable.set_of_all.Given as goal

abbrev pub invariant-loop-r : goal.invariant-loop-r
invariant-loop-r l = l.all.items ≡ all_set (take l.r-index l.found)
