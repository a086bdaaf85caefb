-- The steps of rounds by their places.
use Rattle.std.specs.Prelude.{◌≡◌, ℕ, ◌+◌, Bool, ◌&&◌, nat_lt, List, [], ◌∷◌, ◌++◌, map, take, length, find, option_map, Option, IsTrue, slice_index_or}
use Rattle.std.specs.List.{range_with_len}
use Rattle.lk_model.specs.Formulas.Formula.{is_formula}
use Rattle.lk_model.specs.Documents.Documents.{steps_of}
use Rattle.lk_model.specs.Documents.Form.{are_steps}
use Rattle.lk_model.specs.Chains.Rounds.{StepAt}
use Rattle.lk_model.specs.declared.document.Step.{Step}
use Rattle.lk_model.specs.declared.document.Round.{Round}
use Rattle.check_rounds.specs.declared.chains.RoundAt.{RoundAt}
use Rattle.check_rounds.specs.declared.steps.Rounds.{Rounds}
use Rattle.check_rounds.specs.declared.steps.StepPlace.{StepPlace}
use Rattle.check_rounds.specs.Blocking.{AreBlocks, is_before}
use Rattle.check_tables.specs.Flags.{AreKeptFlags}

-- the steps of the round at an index
abbrev pub steps_at : List Round → ℕ → List Step
steps_at rounds k = (slice_index_or rounds k (let none : Round = record { steps = [] } in none)).steps

-- the place is that of a step
abbrev pub is_step_place : List Round → StepPlace → Bool
is_step_place rounds at = nat_lt at.round (length rounds) && nat_lt at.index (length (steps_at rounds at.round))

-- `count` places of a round, from an index on
abbrev pub places_in_round : ℕ → ℕ → ℕ → List StepPlace
places_in_round k first count = map (λ i. record { round = k; index = i }) (range_with_len first count)

-- the places of all steps of rounds, of which the first has the index k
abbrev pub places_from : ℕ → List Round → List StepPlace
places_from k [] = []
places_from k (r ∷ rounds) = places_in_round k 0 (length r.steps) ++ places_from (k + 1) rounds

-- what a `Rounds` keeps
pub record AreRounds (over : Rounds) : Type 0 where
  pub formula : IsTrue (is_formula over.formula.now)
  pub flags : AreKeptFlags (length over.formula.now.clauses) over.part.now over.flags.now
  pub blocks : AreBlocks over.formula.now 0 over.rounds.now over.blocked_at.now
  pub steps : IsTrue (are_steps over.formula.now.vars (length over.formula.now.clauses) (steps_of over.rounds.now))

-- the steps at hand are those of the round at an index
pub record IsRoundOf (over : Rounds) (k : ℕ) (r : RoundAt) : Type 0 where
  pub formula : r.formula.now ≡ over.formula.now
  pub part : r.part.now ≡ over.part.now
  pub flags : r.flags.now ≡ over.flags.now
  pub blocked_at : r.blocked_at.now ≡ over.blocked_at.now
  pub round : r.round ≡ k
  pub steps : r.steps.now ≡ steps_at over.rounds.now k

-- the step at a place, with what its chain may name
abbrev pub step_at : Rounds → StepPlace → StepAt
step_at over at = record {
  step = slice_index_or (steps_at over.rounds.now at.round) at.index (let none : Step = record { number = 0; clause = []; first = 0; turns = [] } in none);
  premises = record { formula = over.formula.now; part = over.part.now; blocked = is_before at.round over.blocked_at.now; earlier = take at.index (steps_at over.rounds.now at.round) };
}

-- the first of these steps that passes a test, by its number
abbrev pub first_step : (StepAt → Bool) → Rounds → List StepPlace → Option ℕ
first_step t over places = option_map (λ at. (step_at over at).step.number) (find (λ at. t (step_at over at)) places)
