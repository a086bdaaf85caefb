use Rattle.std.proofs.Common.{◌≡◌, ◌≤◌, length}
use Rattle.cdcl_core.specs.Searching.{IsSearch, remaining}
use Rattle.cdcl_core.proofs.decided.run.Given as goal

-- a search that has learned at most so many clauses
abbrev pub invariant-turns : goal.invariant-turns
invariant-turns l = record {
  search : IsSearch l.over l.search;
  first : l.search.log.first ≡ l.fn.search.log.first;
  most : length l.search.log.steps ≤ l.budget;
}

abbrev pub decreases-turns : goal.decreases-turns
decreases-turns l = remaining l.budget l.search
