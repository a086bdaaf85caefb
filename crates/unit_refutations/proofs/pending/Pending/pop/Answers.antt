use Rattle.unit_refutations.proofs.Heaps.{pops}
use Rattle.unit_refutations.proofs.pending.Pending.pop.Goals as goal

pub returns-clause-some : goal.returns-clause-some
returns-clause-some c = pops _ c.args.self.now _ c.pop.result c.self.view_is c.self.invariant c.pop.ensures.permutation c.pop.ensures.below_top
