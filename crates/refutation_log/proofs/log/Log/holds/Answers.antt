use Rattle.std.proofs.Common.{arith}
use Rattle.lk_model.specs.Held.VariableSets.{premises_of}
use Rattle.refutation_log.proofs.Chains.{position_first}
use Rattle.refutation_log.proofs.log.Log.holds.Goals as goal

pub clause-requires-clause-first : goal.clause-requires-clause-first
clause-requires-clause-first c =
    position_first (premises_of c.args.over.now c.args.self.now.steps) c.args.k c.requires.crossed.part (omega (arith, c.len.ensures.value, c.from.ensures, c.if-k-from.true)) c.requires.named
