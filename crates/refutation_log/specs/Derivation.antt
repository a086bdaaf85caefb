-- Logs of resolution chains.
use Rattle.std.specs.Prelude.{◌≡◌, ℕ, ◌+◌, ◌^◌, ◌<◌, Bool, true, ◌&&◌, ◌==◌, nat_lt, IsTrue, List, [], ◌∷◌, ◌++◌, length, map, find, Option, Some, None, option_map, ℤ}
use Rattle.std.specs.List.{list_all}
use Rattle.lk_model.specs.Lists.{with_earlier}
use Rattle.lk_model.specs.Formulas.Literal.{rank_of}
use Rattle.lk_model.specs.Documents.Form.{counts_from}
use Rattle.lk_model.specs.Held.VariableSets.{premises_of}
use Rattle.lk_model.specs.Chains.Chain.{names_of, states_its_clause}
use Rattle.lk_model.specs.declared.crossed.Crossed.{Crossed}
use Rattle.lk_model.specs.declared.document.Step.{Step}
use Rattle.lk_model.specs.declared.document.Turn.{Turn}

-- a first number, and steps that are numbered from it
pub record Derivation : Type 0 where
  pub first : ℕ
  pub steps : List Step

-- the number of the step that comes next
abbrev pub next_number : Derivation → ℕ
next_number d = d.first + length d.steps

-- the literals ascend by variable with the positive one first, and none stands twice
abbrev pub is_ascending : List ℤ → Bool
is_ascending [] = true
is_ascending (l ∷ c) = list_all (λ k. nat_lt (rank_of l) (rank_of k)) c && is_ascending c

-- the steps are numbered one after another, from this number on
abbrev pub are_numbered : ℕ → List Step → Bool
are_numbered first steps = counts_from first (map (λ (s : Step). s.number) steps)

-- the number of the first step
abbrev pub first_number : List Step → ℕ
first_number [] = 0
first_number (s ∷ steps) = s.number

-- each chain names lower numbers than that of its step
abbrev pub names_lower : Step → Bool
names_lower s = list_all (λ k. nat_lt k s.number) (names_of s)

-- the steps are numbered from the first number on, each chain names lower numbers, and the clauses are in order
pub record IsDerivation (first : ℕ) (steps : List Step) : Type 0 where
  pub numbers : IsTrue (are_numbered first steps)
  pub names : IsTrue (list_all names_lower steps)
  pub clauses : IsTrue (list_all (λ (s : Step). is_ascending s.clause) steps)

-- what a log keeps: a derivation of which also the next number is below 2^64
pub record IsLog (first : ℕ) (steps : List Step) : Type 0 where
  pub derivation : IsDerivation first steps
  pub room : first + length steps < 2 ^ 64

-- the clause of the step of a number
abbrev pub clause_of_step : List Step → ℕ → Option (List ℤ)
clause_of_step steps k = option_map (λ (s : Step). s.clause) (find (λ (s : Step). s.number == k) steps)

-- the clause of the last step
abbrev pub last_clause_of : List Step → Option (List ℤ)
last_clause_of [] = None
last_clause_of (s ∷ []) = Some s.clause
last_clause_of (s ∷ t ∷ later) = last_clause_of (t ∷ later)

-- each step states the clause of its chain over the crossed clauses and the steps before it
unfoldable pub are_chains : Crossed → List Step → Bool
are_chains over steps = list_all (λ (earlier, s). states_its_clause (premises_of over earlier) s) (with_earlier [] steps)

-- the step of a chain
abbrev pub step_of : ℕ → List ℤ → ℕ → List Turn → Step
step_of number clause first turns = record { number = number; clause = clause; first = first; turns = turns }

-- The derivation has one more step: the given chain, with its clause in order.
pub record Extends (over : Crossed) (before : Derivation) (first : ℕ) (turns : List Turn) (after : Derivation) : Type 0 where
  pub clause : List ℤ
  pub same_first : after.first ≡ before.first
  pub steps : after.steps ≡ before.steps ++ step_of (next_number before) clause first turns ∷ []
  pub stated : IsTrue (states_its_clause (premises_of over before.steps) (step_of (next_number before) clause first turns))
  pub ascending : IsTrue (is_ascending clause)

-- Steps that are pushed one after another are chains.
pub record PushedLaw : Type 0 where
  pub none : (over : Crossed) → IsTrue (are_chains over [])
  pub more : (over : Crossed) (before after : Derivation) (first : ℕ) (turns : List Turn)
      → IsTrue (are_chains over before.steps) → Extends over before first turns after → IsTrue (are_chains over after.steps)
