-- Logs of chains that are given.
use Rattle.std.specs.Prelude.{◌≡◌, ℕ, ◌+◌, ◌<◌, ◌^◌, List, length, map, IsTrue}
use Rattle.lk_model.specs.Chains.Rounds.{is_refutation}
use Rattle.lk_model.specs.declared.crossed.Crossed.{Crossed}
use Rattle.lk_model.specs.declared.document.Step.{Step}
use Rattle.refutation_log.specs.declared.chain.Chain.{Chain}
use Rattle.refutation_log.specs.Derivation.{Derivation, IsDerivation, are_chains}
use Rattle.refutation_log.specs.Trimmed.{are_filled_before_last}

-- the chain of a step
abbrev pub chain_of : Step → Chain
chain_of s = record { first = s.first; turns = s.turns }

-- The log, numbered from `next`, has a step for each of the given chains, and refutes: the last clause is empty, and no other.
pub record IsReplayed (over : Crossed) (next : ℕ) (given : List Chain) (log : Derivation) : Type 0 where
  pub numbered : log.first ≡ next
  pub steps : map chain_of log.steps ≡ given
  pub derivation : IsDerivation log.first log.steps
  pub room : log.first + length log.steps < 2 ^ 64
  pub chains : IsTrue (are_chains over log.steps)
  pub refutes : IsTrue (is_refutation log.steps)
  pub filled : IsTrue (are_filled_before_last log.steps)
