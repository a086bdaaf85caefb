-- What is found of a formula: a model, a refutation, or an open round.
use Rattle.std.specs.Prelude.{◌≡◌, ◌⊎◌, ℕ, ◌^◌, ◌<◌, ◌≤◌, List, [], ◌∷◌, ◌++◌, map, length, ℤ, None, IfSome, IsTrue}
use Rattle.std.specs.List.{AllByRecursion}
use Rattle.lk_model.specs.Lists.{among}
use Rattle.lk_model.specs.Formulas.Literal.{variable}
use Rattle.lk_model.specs.Formulas.Formula.{Cnf, positions_of, variables_to, first_empty}
use Rattle.lk_model.specs.Formulas.Assignment.{assignment_of, IsModel}
use Rattle.lk_model.specs.Formulas.Crossed.{no_variable}
use Rattle.lk_model.specs.Formulas.Lean.{all_of}
use Rattle.lk_model.specs.Formulas.Minimal.{IsSatisfiable}
use Rattle.lk_model.specs.Chains.Rounds.{is_trimmed, names_within, empty_round}
use Rattle.lk_model.specs.Chains.Searches.{WantsMore}
use Rattle.lk_model.specs.Checks.RoundChecks.{learned_steps, IsRefutation}
use Rattle.lk_model.specs.Checks.Checks.{IsSound, HasProgress}
use Rattle.lk_model.specs.declared.decided.Decided.TheVariants.{Model, Refuted, Stopped}
use Rattle.lk_model.specs.declared.document.Round.{Round}
use Rattle.general_laws.specs.Found as found
use Rattle.general_laws.specs.OpenResults.{IsOpenResult, open_document}
use Rattle.part_formula.specs.Decisions.{Decision}
pub use Rattle.part_formula.specs.Decisions.{most_steps}
use Rattle.kernel_solve.specs.KernelParts.{IsKernelPart, AreMatchingParts}

-- a literal for each variable, ascending, and together they satisfy each clause
pub record IsTotalModel (F : Cnf) (lits : List ℤ) : Type 0 where
  pub total : map variable lits ≡ variables_to F.vars
  pub satisfies : IsModel F (all_of F) (assignment_of lits)

-- some assignment satisfies each clause of the part, or a search over it stopped with as many learned clauses as were allowed
abbrev pub IsNotRefuted : Cnf → ℕ → List ℕ → Type 0
IsNotRefuted F conflicts part = IsSatisfiable F (among part) ⊎ ((r : Round) × found.IsUnfinished F part conflicts (r ∷ []))

-- It refutes a part of the matching kernel. No part before that one is refuted.
pub record RefutesIn (F : Cnf) (conflicts : ℕ) (part : List ℕ) (r : Round) : Type 0 where
  pub before : List (List ℕ)
  pub behind : List (List ℕ)
  pub parts : AreMatchingParts F (before ++ part ∷ behind)
  pub others : AllByRecursion (IsNotRefuted F conflicts) before
  pub refutation : IsRefutation F part r

-- A refutation of the formula. It has at most as many steps with a literal as clauses were allowed to be learned, and three
-- for each literal of the formula. Each step is reached backwards from the last one. Where a clause is empty, it is the one
-- step of the first such clause, and else it is that of the first refuted part.
pub record IsRefutedWithin (F : Cnf) (conflicts : ℕ) (r : Round) : Type 0 where
  pub refutation : IsRefutation F (positions_of F) r
  pub needed : IsTrue (is_trimmed r)
  pub most : length (learned_steps (r ∷ [])) ≤ most_steps F conflicts
  pub empty : IfSome (first_empty F) (λ p. r ≡ empty_round F p)
  pub first : first_empty F ≡ None → (part : List ℕ) × RefutesIn F conflicts part r

-- The chains of the round name positions of one part of the matching kernel, and the search there is not at its end. The parts
-- before that one have models, and of those after it none is refuted.
pub record StopsIn (F : Cnf) (conflicts : ℕ) (part : List ℕ) (r : Round) : Type 0 where
  pub is_part : IsKernelPart F part
  pub before : List (List ℕ)
  pub behind : List (List ℕ)
  pub parts : AreMatchingParts F (before ++ part ∷ behind)
  pub models : AllByRecursion (λ p. IsSatisfiable F (among p)) before
  pub others : AllByRecursion (IsNotRefuted F conflicts) behind
  pub names : IsTrue (names_within F part (r ∷ []))
  pub wants : WantsMore F no_variable part (r ∷ [])

-- No clause is empty. The round learned as many clauses as were allowed, over the whole formula, which are fewer than
-- 3^n for its n variables. The document that states them is sound for the formula, and has progress.
pub record IsUndecidedWithin (F : Cnf) (conflicts : ℕ) (r : Round) : Type 0 where
  pub filled : first_empty F ≡ None
  pub learning : IsOpenResult F (positions_of F) (r ∷ [])
  pub all : length (learned_steps (r ∷ [])) ≡ conflicts
  pub few : conflicts < 3 ^ F.vars
  pub sound : IsSound F (open_document F (r ∷ []))
  pub progress : HasProgress F (open_document F (r ∷ []))
  pub part : List ℕ
  pub stops : StopsIn F conflicts part r

abbrev pub IsSolved : Cnf → ℕ → Decision → Type 0
IsSolved F conflicts (Model lits) = IsTotalModel F lits
IsSolved F conflicts (Refuted r) = IsRefutedWithin F conflicts r
IsSolved F conflicts (Stopped r) = IsUndecidedWithin F conflicts r
