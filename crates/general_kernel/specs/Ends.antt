-- How the rounds of a search begin, and how they end.
use Rattle.std.specs.Prelude.{◌≡◌, ℕ, ◌+◌, false, List, [], ◌∷◌, ◌++◌, length, replicate, IsTrue}
use Rattle.lk_model.specs.Formulas.Formula.{Cnf, is_formula, IsWithinLimits}
use Rattle.general_laws.specs.Found.{IsDone, IsUnfinished}
use Rattle.general_kernel.specs.TrimmedRounds.{AreRefuting, rounds_of, trimmed_rounds}
use Rattle.general_kernel.specs.declared.general.End.{End}
use Rattle.general_kernel.specs.declared.general.End.TheVariants.{Kernel, Open}
use Rattle.general_kernel.specs.declared.rounds.Rounds.{Rounds}

-- no refutation yet
pub record IsBegun (F : Cnf) (s : Rounds) : Type 0 where
  pub form : IsTrue (is_formula F)
  pub limits : IsWithinLimits F
  pub first : s.first ≡ length F.clauses + 1
  pub logs : s.logs.items ≡ []
  pub blocked : s.blocked ≡ replicate F.vars false
  pub next : s.next ≡ length F.clauses + 1

-- with what the refutations need they make a kernel; or with the open round they are unfinished
abbrev pub EndsRounds : Cnf → List ℕ → ℕ → Rounds → End → Type 0
EndsRounds F part conflicts s (Kernel kept set) = AreRefuting s.first s.first s.logs.items
    × IsDone F part conflicts (record { kept = kept; set = set; rounds = trimmed_rounds s.first s.logs.items })
EndsRounds F part conflicts s (Open round) = IsUnfinished F part conflicts (rounds_of s.logs.items ++ round ∷ [])
