use Rattle.std.proofs.Common.{◌∙◌}
use Rattle.watch_prop.proofs.States.{leads_then}
use Rattle.watch_prop.proofs.state.follow_trail.Goals as goal

pub returns-in-Conflict-clause-leads : goal.returns-in-Conflict-clause-leads
returns-in-Conflict-clause-leads c =
    leads_then c.args.clauses.now c.args.trail.now c.literals.trail c.pass_on.new.trail c.args.state.now c.literals.state c.pass_on.new.state c.literals.invariant.leads c.pass_on.ensures.leads

pub literals-preserved : goal.literals-preserved
literals-preserved c = record {
  leads = leads_then c.args.clauses.now c.args.trail.now c.literals.trail c.pass_on.new.trail c.args.state.now c.literals.state c.pass_on.new.state
      c.literals.invariant.leads c.pass_on.ensures.leads;
  count = c.pass_on.ensures.unseen ∙ c.literals.invariant.count;
}
