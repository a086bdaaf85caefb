-- Rounds of refutations: each whole round blocks the variables that the clauses of its refutation still contain.
use Rattle.std.specs.Prelude.{ℕ, Bool, true, false, not, if◌then◌else◌, ◌&&◌, ◌||◌, List, [], ◌∷◌, ◌++◌, map, filter, length, nat_lt, IsTrue, ◌+◌}
use Rattle.std.specs.List.{flat_map, list_all}
use Rattle.lk_model.specs.Lists.{among, is_empty, with_earlier}
use Rattle.lk_model.specs.Formulas.Literal.{variable}
use Rattle.lk_model.specs.Formulas.Formula.{Cnf, positions_of, clause_at}
use Rattle.lk_model.specs.Documents.Documents.{steps_of}
use Rattle.lk_model.specs.Formulas.Crossed.{Variables, crossed_out}
use Rattle.lk_model.specs.Chains.Chain.{Premises, names_of}
use Rattle.lk_model.specs.declared.document.Step.{Step}
use Rattle.lk_model.specs.declared.document.Round.{Round}

-- the numbers that are reached backwards from the last step: its own, and those that the chain of a reached step names
unfoldable pub reached : List Step → List ℕ
reached [] = []
reached (s ∷ []) = s.number ∷ names_of s
reached (s ∷ t ∷ later) = let known = reached (t ∷ later) in if among known s.number then names_of s ++ known else known

-- the last clause is empty
abbrev pub is_refutation : List Step → Bool
is_refutation [] = false
is_refutation (s ∷ []) = is_empty s.clause
is_refutation (s ∷ t ∷ later) = is_refutation (t ∷ later)

-- the positions that a round uses, ascending
abbrev pub used_positions : Cnf → Round → List ℕ
used_positions F r = filter (among (reached r.steps)) (positions_of F)

-- the variables that the used clauses contain uncrossed
abbrev pub variables_used : Cnf → Variables → Round → List ℕ
variables_used F blocked r = flat_map (λ p. map variable (crossed_out blocked (clause_at F p))) (used_positions F r)

-- the blocked variables after a round; a round that is not whole blocks nothing
abbrev pub blocked_after_round : Cnf → Variables → Round → Variables
blocked_after_round F blocked r v = blocked v || (is_refutation r.steps && among (variables_used F blocked r) v)

-- after all rounds
unfoldable pub blocked_after : Cnf → Variables → List Round → Variables
blocked_after F blocked [] = blocked
blocked_after F blocked (r ∷ rounds) = blocked_after F (blocked_after_round F blocked r) rounds

-- the positions that the chains name are in the part
abbrev pub names_within : Cnf → List ℕ → List Round → Bool
names_within F part rounds = list_all
    (λ (s : Step). list_all (λ k. nat_lt (length F.clauses) k || among part k) (names_of s))
    (steps_of rounds)

-- a step, with what its chain may name
pub record StepAt : Type 0 where
  pub step : Step
  pub premises : Premises

abbrev pub steps_in_round : Cnf → List ℕ → Variables → Round → List StepAt
steps_in_round F part blocked r = map
    (λ (earlier, s). record { step = s; premises = record { formula = F; part = part; blocked = blocked; earlier = earlier } })
    (with_earlier [] r.steps)

unfoldable pub steps_in_rounds : Cnf → List ℕ → Variables → List Round → List StepAt
steps_in_rounds F part blocked [] = []
steps_in_rounds F part blocked (r ∷ rounds) =
    steps_in_round F part blocked r ++ steps_in_rounds F part (blocked_after_round F blocked r) rounds

-- each whole round blocks a variable that was not blocked before it
unfoldable pub has_progress : Cnf → Variables → List Round → Bool
has_progress F blocked [] = true
has_progress F blocked (r ∷ rounds) = (not (is_refutation r.steps) || not (is_empty (variables_used F blocked r)))
    && has_progress F (blocked_after_round F blocked r) rounds

-- each step is reached backwards from the last one
abbrev pub is_trimmed : Round → Bool
is_trimmed r = list_all (λ (s : Step). among (reached r.steps) s.number) r.steps

-- Each step is reached backwards from the last one of its round, and each whole round blocks a variable that was not blocked
-- before.
pub record AreNeeded (F : Cnf) (blocked : Variables) (rounds : List Round) : Type 0 where
  pub trimmed : IsTrue (list_all is_trimmed rounds)
  pub progress : IsTrue (has_progress F blocked rounds)

-- the one step of the empty clause at a position
abbrev pub empty_round : Cnf → ℕ → Round
empty_round F p = record { steps = record { number = length F.clauses + 1; clause = []; first = p; turns = [] } ∷ [] }
