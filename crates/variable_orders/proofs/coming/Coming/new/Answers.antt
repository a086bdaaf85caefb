use Rattle.variable_orders.proofs.Arriving.{none_come}
use Rattle.variable_orders.proofs.coming.Coming.new.Goals as goal

pub returns : goal.returns
returns c = none_come c.args.over.now _ c.new.ensures.items c.in_ok-occurring.ensures.size c.in_ok-occurring.ensures.vars
