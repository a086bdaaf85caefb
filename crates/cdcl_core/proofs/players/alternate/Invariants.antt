use Rattle.std.proofs.Common.{◌<◌, ◌≤◌, ◌-◌, length}
use Rattle.cdcl_core.specs.Players.{AreWithin}
use Rattle.cdcl_core.proofs.players.alternate.Given as goal

-- no search has learned more than it may before the present pause
abbrev pub invariant-slices : goal.invariant-slices
invariant-slices l = record {
  some : 0 < length l.players.items;
  players : AreWithin l.over l.bounds.next l.bounds.budget l.players.items;
  most : l.pause ≤ l.bounds.budget;
}

abbrev pub decreases-slices : goal.decreases-slices
decreases-slices l = l.bounds.budget - l.pause
