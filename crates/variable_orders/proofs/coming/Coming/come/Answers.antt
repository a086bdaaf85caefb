use Rattle.variable_orders.proofs.Arriving.{one_comes}
use Rattle.variable_orders.proofs.coming.Coming.come.Goals as goal

pub returns-clause-coming : goal.returns-clause-coming
returns-clause-coming c =
    one_comes c.args.over.now c.args.self.now _ c.args.v c.requires.coming c.requires.first c.requires.last c.requires.ahead
    c.in_ok-push.ensures.items c.remove.ensures.size c.remove.ensures.vars
