-- What the chains of a round may name, and the clause of a chain as a set of literals.
use Rattle.std.specs.Prelude.{◌≡◌, ℕ, Bool, true, false, if◌then◌else◌, not, ◌&&◌, ◌==◌, List, length, take, ℤ, Option, Some, None, IsTrue, nat_le, find, option_map}
use Rattle.std.specs.List.{list_all}
use Rattle.lk_model.specs.Lists.{is_empty}
use Rattle.lk_model.specs.Formulas.Literal.{contains, is_literal}
use Rattle.lk_model.specs.Formulas.Formula.{Cnf}
use Rattle.lk_model.specs.Formulas.Crossed.{Variables}
use Rattle.lk_model.specs.declared.document.Step.{Step}
use Rattle.lk_model.specs.declared.document.Round.{Round}
use Rattle.lk_model.specs.Chains.Chain.{Premises, states_its_clause, is_learned}
use Rattle.lk_model.specs.Chains.Rounds.{StepAt, steps_in_round, steps_in_rounds}
use Rattle.check_rounds.specs.declared.chains.RoundAt.{RoundAt}
use Rattle.check_rounds.specs.declared.work.Work.{Work}
use Rattle.check_rounds.specs.Blocking.{is_before, AreRoundSteps}
use Rattle.check_tables.specs.Flags.{AreKeptFlags}
use Rattle.check_tables.specs.LiteralSets.{IsSetOf}

-- what a `RoundAt` keeps
pub record IsRoundAt (over : RoundAt) : Type 0 where
  pub flags : AreKeptFlags (length over.formula.now.clauses) over.part.now over.flags.now
  pub blocks : length over.blocked_at.now ≡ over.formula.now.vars
  pub steps : AreRoundSteps over.formula.now.vars (length over.formula.now.clauses) over.steps.now

-- what the chain of the step at a place may name
abbrev pub premises_at : RoundAt → ℕ → Premises
premises_at over i = record {
  formula = over.formula.now;
  part = over.part.now;
  blocked = is_before over.round over.blocked_at.now;
  earlier = take i over.steps.now;
}

-- the step of a number among those before a place
abbrev pub step_numbered : RoundAt → ℕ → ℕ → Option Step
step_numbered over i k = find (λ (s : Step). s.number == k) (take i over.steps.now)

-- the round before which variables are blocked in what a number stands for: a step is taken as it is
abbrev pub round_of : RoundAt → ℕ → ℕ
round_of over k = if nat_le k (length over.formula.now.clauses) then over.round else 0

-- Of the literals over n variables, those of the clause are in the set; and each of them stands in the list.
pub record IsWork (n : ℕ) (c : List ℤ) (w : Work) : Type 0 where
  pub set : IsSetOf n c w.flags
  pub listed : (l : ℤ) → contains c l ≡ true → contains w.literals.items l ≡ true
  pub literals : IsTrue (list_all (is_literal n) w.literals.items)

-- a clause was made, and this is it; or none
abbrev pub IsMade : ℕ → Option (List ℤ) → Bool → Work → Type 0
IsMade n None made w = (made ≡ false) × ((c : List ℤ) × IsWork n c w)
IsMade n (Some c) made w = (made ≡ true) × IsWork n c w

-- TESTS OF STEPS

-- a step of the round, behind these
abbrev pub step_behind : RoundAt → List Step → Step → StepAt
step_behind over earlier s = record {
  step = s;
  premises = record { formula = over.formula.now; part = over.part.now; blocked = is_before over.round over.blocked_at.now; earlier = earlier };
}

-- the step states not the clause of its chain
abbrev pub misstates : StepAt → Bool
misstates s = not (states_its_clause s.premises s.step)

-- the step has a clause that is not empty and not learned
abbrev pub is_unlearned : StepAt → Bool
is_unlearned s = not (is_empty s.step.clause) && not (is_learned s.premises s.step.clause)

-- the first step that passes a test, by its number: of a round, and of rounds
abbrev pub first_in_round : (StepAt → Bool) → Cnf → List ℕ → Variables → Round → Option ℕ
first_in_round t F part blocked r = option_map (λ (s : StepAt). s.step.number) (find t (steps_in_round F part blocked r))

abbrev pub first_in_rounds : (StepAt → Bool) → Cnf → List ℕ → Variables → List Round → Option ℕ
first_in_rounds t F part blocked rounds = option_map (λ (s : StepAt). s.step.number) (find t (steps_in_rounds F part blocked rounds))
