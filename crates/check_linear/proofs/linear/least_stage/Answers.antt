use Rattle.std.proofs.Common.{arith}
use Rattle.check_linear.proofs.StageBalances.{least_small}
use Rattle.check_linear.proofs.linear.least_stage.Goals as goal

pub loop-l-init : goal.loop-l-init
loop-l-init c = record { most = omega arith; rest = omega (arith, least_small c.args.last c.args.places.now c.args.clause.now) }
