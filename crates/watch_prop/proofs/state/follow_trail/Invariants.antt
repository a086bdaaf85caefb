use Rattle.std.proofs.Common.{◌≡◌, ◌-◌}
use Rattle.watch_prop.specs.States.{Leads, unseen}
use Rattle.watch_prop.proofs.state.follow_trail.Given as goal

abbrev pub invariant-literals : goal.invariant-literals
invariant-literals l = record {
  leads : Leads l.clauses l.fn.trail l.trail l.fn.state l.state;
  count : unseen l.state ≡ unseen l.fn.state;
}

abbrev pub decreases-literals : goal.decreases-literals
decreases-literals l = l.trail.vars - l.state.head
