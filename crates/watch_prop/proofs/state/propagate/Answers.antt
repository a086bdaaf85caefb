use Rattle.std.proofs.Common.{◌∙◌}
use Rattle.watch_prop.proofs.States.{leads_then}
use Rattle.watch_prop.proofs.Quiet.{answer_of}
use Rattle.watch_prop.proofs.state.propagate.Goals as goal

pub returns-in-Quiet-clause-leads : goal.returns-in-Quiet-clause-leads
returns-in-Quiet-clause-leads c =
    leads_then c.args.clauses.now c.args.trail.now c.look_at_waiting.new.trail c.follow_trail.new.trail c.args.state.now c.look_at_waiting.new.state c.follow_trail.new.state
    c.look_at_waiting.ensures.leads c.follow_trail.ensures.leads

pub returns-in-Quiet-clause-answer : goal.returns-in-Quiet-clause-answer
returns-in-Quiet-clause-answer c =
    answer_of c.args.clauses.now c.follow_trail.new.trail c.follow_trail.new.state c.follow_trail.result c.follow_trail.ensures.leads.state
    (c.follow_trail.ensures.unseen ∙ c.in-Quiet.ensures.done) c.follow_trail.ensures.done
