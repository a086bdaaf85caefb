-- A check of a document: its kind, and the first place at which it fails.
use Rattle.std.specs.Prelude.{ℕ, Bool, not, ◌&&◌, ◌||◌, List, [], ◌∷◌, ℤ, find, option_map, Option, Some, None}
use Rattle.std.specs.Option.{option_map_or}
use Rattle.lk_model.specs.Lists.{among}
use Rattle.lk_model.specs.Formulas.Formula.{Cnf, clause_at}
use Rattle.lk_model.specs.Chains.Rounds.{StepAt}
use Rattle.lk_model.specs.declared.verdict.Kind.{Kind}
use Rattle.lk_model.specs.declared.verdict.Why.{Why}

-- a kind, and the first place at which it fails, if it fails
pub record Check : Type 0 where
  pub kind : Kind
  pub place : Option ℕ

-- the first of these places at which a test says that the kind fails
abbrev pub fails : Kind → List ℕ → (ℕ → Bool) → Check
fails kind places test = record { kind = kind; place = find test places }

-- the first of these steps, by its number
abbrev pub fails_at_step : Kind → List StepAt → (StepAt → Bool) → Check
fails_at_step kind steps test = record { kind = kind; place = option_map (λ (s : StepAt). s.step.number) (find test steps) }

-- the first kind that fails
abbrev pub first_of : List Check → Option Why
first_of [] = None
first_of (c ∷ cs) = option_map_or (λ place. Some (record { kind = c.kind; place = place })) c.place (first_of cs)

-- a place that wants a line and has none, or has one and wants none, or has a bad one
abbrev pub line_fails : {X : Type 0} → Bool → Option X → (X → Bool) → Bool
line_fails wanted None bad = wanted
line_fails wanted (Some line) bad = not wanted || bad line

-- a kept position whose clause passes a test
abbrev pub is_kept_with : Cnf → List ℕ → ℕ → (List ℤ → Bool) → Bool
is_kept_with F kept p test = among kept p && test (clause_at F p)
