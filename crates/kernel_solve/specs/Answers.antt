-- What is decided of all parts.
use Rattle.std.specs.Prelude.{◌≡◌, ℕ, List, [], ◌∷◌, ◌++◌, ⊤, map, ℤ, Option, Some, None}
use Rattle.lk_model.specs.Formulas.Formula.{Cnf}
use Rattle.lk_model.specs.declared.document.Round.{Round}
use Rattle.part_formula.specs.Decisions.{Decision, IsDecision}
use Rattle.lk_model.specs.declared.decided.Decided.{Decided}
use Rattle.lk_model.specs.declared.decided.Decided.TheVariants.{Model, Refuted, Stopped}

-- one answer for each of these parts
abbrev pub AreAnswers : Cnf → ℕ → List (List ℕ) → List Decision → Type 0
AreAnswers F conflicts [] [] = ⊤
AreAnswers F conflicts (part ∷ parts) (answer ∷ answers) = IsDecision F part conflicts answer × AreAnswers F conflicts parts answers
AreAnswers F conflicts _ _ = ⊥

-- the answers that these models are
abbrev pub models : List (List ℤ) → List Decision
models sets = map (λ (lits : List ℤ). Model lits) sets

-- each is a model, or a round that stopped
abbrev pub AreNotRefuted : List Decision → Type 0
AreNotRefuted [] = ⊤
AreNotRefuted (Model lits ∷ answers) = AreNotRefuted answers
AreNotRefuted (Stopped r ∷ answers) = AreNotRefuted answers
AreNotRefuted _ = ⊥

-- the first refutation: before it stand models and rounds that stopped
pub record IsFirstRefutation (answers : List Decision) (r : Round) : Type 0 where
  pub before : List Decision
  pub behind : List Decision
  pub answers_are : answers ≡ before ++ Refuted r ∷ behind
  pub others : AreNotRefuted before

-- without a refutation, the first round that stopped: before it stand models
pub record IsFirstStop (answers : List Decision) (r : Round) : Type 0 where
  pub before : List (List ℤ)
  pub behind : List Decision
  pub answers_are : answers ≡ models before ++ Stopped r ∷ behind
  pub others : AreNotRefuted behind

-- all models, or the first refutation, or, if there is none, the first round that stopped
abbrev pub IsGathered : List Decision → Decided (List (List ℤ)) Round Round → Type 0
IsGathered answers (Model sets) = answers ≡ models sets
IsGathered answers (Refuted r) = IsFirstRefutation answers r
IsGathered answers (Stopped r) = IsFirstStop answers r

-- of some answers without a refutation: models as long as no round stopped, and then the first round that did
abbrev pub IsGatheredSoFar : List Decision → List (List ℤ) → Option Round → Type 0
IsGatheredSoFar answers sets None = answers ≡ models sets
IsGatheredSoFar answers sets (Some r) = IsFirstStop answers r
