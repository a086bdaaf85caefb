use Rattle.std.proofs.Common.{◌≡◌, take}
use Rattle.refutation_log.specs.Derivation.{Derivation}
use Rattle.refutation_log.specs.Replayed.{IsReplayed}
use Rattle.refutation_log.proofs.ReplayLaws.{IsReplay}
use Rattle.refutation_log.proofs.replaying.push_chains.Given as goal

abbrev pub invariant-loop-chain : goal.invariant-loop-chain
invariant-loop-chain l = record {
  so_far : IsReplay l.over l.fn.log.first (take l.chain-index l.chains) l.log;
  begins : (d : Derivation) → IsReplayed l.over l.fn.log.first l.chains d → l.log.steps ≡ take l.chain-index d.steps;
}
