use Rattle.watch_prop.specs.States.{Leads, unseen}
use Rattle.watch_prop.proofs.state.look_at_waiting.Given as goal

abbrev pub invariant-clauses : goal.invariant-clauses
invariant-clauses l = Leads l.clauses l.fn.trail l.trail l.fn.state l.state

abbrev pub decreases-clauses : goal.decreases-clauses
decreases-clauses l = unseen l.state
