use Rattle.watch_prop.proofs.States.{leads_then}
use Rattle.watch_prop.proofs.state.look_at_waiting.Goals as goal

pub returns-in-Conflict-clause-leads : goal.returns-in-Conflict-clause-leads
returns-in-Conflict-clause-leads c =
    leads_then c.args.clauses.now c.args.trail.now c.clauses.trail c.look_at_next.new.trail c.args.state.now c.clauses.state c.look_at_next.new.state
    c.clauses.invariant c.look_at_next.ensures.leads

pub clauses-preserved : goal.clauses-preserved
clauses-preserved c =
    leads_then c.args.clauses.now c.args.trail.now c.clauses.trail c.look_at_next.new.trail c.args.state.now c.clauses.state c.look_at_next.new.state
    c.clauses.invariant c.look_at_next.ensures.leads
