use Rattle.std.proofs.Common.{◌-◌, length}
use Rattle.watch_prop.specs.Watchers.{watchers as watchers_of}
use Rattle.watch_prop.proofs.Passing.{IsPassing}
use Rattle.watch_prop.proofs.state.pass_on.Given as goal

abbrev pub invariant-watchers : goal.invariant-watchers
invariant-watchers l = IsPassing l.clauses l.fn.trail l.trail l.fn.state l.state l.l l.at

abbrev pub decreases-watchers : goal.decreases-watchers
decreases-watchers l = length (watchers_of l.state.lists.lists l.l) - l.at
