use Rattle.std.proofs.Common.{◌≡◌, take}
use Rattle.autarky_compose.specs.JoinedGeneral.{all_kept}
use Rattle.test_parts.proofs.joinable.kept_of_all.Given as goal

abbrev pub invariant-loop-r : goal.invariant-loop-r
invariant-loop-r l = l.all.items ≡ all_kept (take l.r-index l.found)
