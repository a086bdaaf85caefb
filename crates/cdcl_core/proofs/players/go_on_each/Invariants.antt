use Rattle.std.proofs.Common.{◌≡◌, length}
use Rattle.cdcl_core.specs.Players.{AreWithin, ArePausedBefore}
use Rattle.cdcl_core.proofs.players.go_on_each.Given as goal

-- the searches so far have paused
abbrev pub invariant-loop-place : goal.invariant-loop-place
invariant-loop-place l = record {
  length : length l.players.items ≡ length l.fn.players.items;
  within : AreWithin l.over l.bounds.next l.bounds.budget l.players.items;
  paused : ArePausedBefore l.place l.over l.bounds.next l.pause l.bounds.budget l.players.items;
}
