-- Refutations one after another, without the steps that they do not need.
use Rattle.std.specs.Prelude.{◌≡◌, ℕ, ◌+◌, List, [], ◌∷◌, ⊤, length, map, IsTrue}
use Rattle.lk_model.specs.Chains.Rounds.{is_refutation}
use Rattle.lk_model.specs.declared.document.Round.{Round}
use Rattle.refutation_log.specs.Derivation.{Derivation, IsLog}
use Rattle.refutation_log.specs.Trimmed.{trimmed, names_positions_below}

-- all steps of each log
abbrev pub rounds_of : List Derivation → List Round
rounds_of logs = map (λ (log : Derivation). record { steps = log.steps }) logs

-- the needed steps of each log, numbered one after another from a number on
abbrev pub trimmed_rounds : ℕ → List Derivation → List Round
trimmed_rounds next [] = []
trimmed_rounds next (log ∷ logs) =
    record { steps = trimmed next log.steps } ∷ trimmed_rounds (next + length (trimmed next log.steps)) logs

-- a log that refutes, whose steps are numbered from `first` on, and whose chains name no other positions than those below
-- `low`
pub record IsRefuting (low first : ℕ) (log : Derivation) : Type 0 where
  pub numbered : log.first ≡ first
  pub form : IsLog log.first log.steps
  pub refutes : IsTrue (is_refutation log.steps)
  pub positions : IsTrue (names_positions_below low log.first log.steps)

-- such logs, their steps numbered one after another from `first` on
abbrev pub AreRefuting : ℕ → ℕ → List Derivation → Type 0
AreRefuting low first [] = ⊤
AreRefuting low first (log ∷ logs) = IsRefuting low first log × AreRefuting low (first + length log.steps) logs
