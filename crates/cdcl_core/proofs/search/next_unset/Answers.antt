use Rattle.std.proofs.Common.{ap}
use Rattle.cdcl_core.proofs.Searches.{vars_within, may_be_next}
use Rattle.cdcl_core.proofs.search.next_unset.Goals as goal

pub next-requires-clause-within : goal.next-requires-clause-within
next-requires-clause-within c = vars_within c.args.over.now c.args.p.now.vars c.args.order.now.vars.items c.requires.formula c.requires.variables

pub returns-clause-within : goal.returns-clause-within
returns-clause-within c =
    may_be_next c.args.over.now c.args.order.now.vars.items c.next.new.self.vars.items c.next.result c.requires.variables (ap (λ vs. vs.items) c.next.ensures.vars) c.next.ensures.next
