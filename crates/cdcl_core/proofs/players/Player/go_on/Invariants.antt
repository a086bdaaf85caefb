use Rattle.std.proofs.Common.{◌≡◌, ◌≤◌, ◌-◌, length}
use Rattle.cdcl_core.specs.Searching.{IsSearch}
use Rattle.cdcl_core.proofs.players.Player.go_on.Given as goal

-- a search that has learned at most so many clauses
abbrev pub invariant-runs : goal.invariant-runs
invariant-runs l = record {
  search : IsSearch l.over l.self.search;
  first : l.self.search.log.first ≡ l.fn.bounds.next;
  few : length l.self.search.log.steps ≤ l.until;
}

abbrev pub decreases-runs : goal.decreases-runs
decreases-runs l = l.until - length l.self.search.log.steps
