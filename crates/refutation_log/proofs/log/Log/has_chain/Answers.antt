use Rattle.std.proofs.Common.{◌↔◌, Bool, IfOk, IsSome, IsTrue, subst}
use Rattle.lk_model.specs.Chains.Chain.{chain_clause}
use Rattle.lk_model.specs.Held.VariableSets.{premises_of}
use Rattle.refutation_log.specs.Derivation.{Derivation}
use Rattle.refutation_log.proofs.log.Log.has_chain.Goals as goal

pub returns-clause-chain : goal.returns-clause-chain
returns-clause-chain c =
    subst (λ (d : Derivation). IfOk c.goes-has.result (λ (has : Bool). IsTrue has ↔ IsSome (chain_clause (premises_of c.args.over.now d.steps) c.args.first c.args.turns.now)))
    c.self.view_is c.goes-has.ensures
