use Rattle.std.proofs.Common.{sym, subst}
use Rattle.cdcl_core.specs.Orders.{AreVariablesOver}
use Rattle.cdcl_core.proofs.Orders.{order_variables}
use Rattle.cdcl_core.proofs.Searches.{search_begins}
use Rattle.cdcl_core.proofs.search.Search.new.Goals as goal

pub returns-clause-search : goal.returns-clause-search
returns-clause-search c =
    let variables = order_variables c.args.over.now c.args.order.items c.vars.ensures.formula c.requires.order in
    search_begins c.args.over.now (record { propagator = c.in_ok-new.field-0; log = c.new-3.result; order = c.new-order.result; marks = c.in_ok-marks.marks })
    c.args.next c.vars.result c.vars.ensures.formula c.requires.past c.new-3.ensures.first c.new-3.ensures.steps c.in_ok-new.ensures.held c.in_ok-new.ensures.vars c.in_ok-new.ensures.clauses c.in_ok-new.ensures.trail
    (subst (λ vs. AreVariablesOver c.args.over.now vs.items) (sym c.new-order.ensures.vars) variables) c.new-order.ensures.place c.new-order.ensures.opened c.in_ok-marks.ensures c.vars.ensures.value
