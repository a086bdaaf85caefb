-- What the search for a minimally unsatisfiable core returns.
use Rattle.std.specs.Prelude.{◌≡◌, ◌⊎◌, ℕ, ◌^◌, ◌<◌, ◌≤◌, ◌==◌, not, List, [], ◌∷◌, ◌++◌, map, filter, find, length, ℤ, IfSome, IsTrue}
use Rattle.std.specs.List.{AllByRecursion}
use Rattle.lk_model.specs.Lists.{among, is_empty}
use Rattle.lk_model.specs.Formulas.Literal.{variable}
use Rattle.lk_model.specs.Formulas.Formula.{Cnf, clause_at, clauses_at, positions_of, variables_to}
use Rattle.lk_model.specs.Formulas.Assignment.{assignment_of, IsModel}
use Rattle.lk_model.specs.Formulas.Lean.{are_positions, all_of}
use Rattle.lk_model.specs.Formulas.Minimal.{IsSatisfiable}
use Rattle.lk_model.specs.Formulas.Parts.{AreParts}
use Rattle.lk_model.specs.Chains.Rounds.{is_trimmed}
use Rattle.lk_model.specs.Checks.RoundChecks.{learned_steps}
use Rattle.lk_model.specs.declared.document.Round.{Round}
use Rattle.lk_model.specs.declared.result.MusResult.{MusResult}
use Rattle.general_laws.specs.Found.{IsUnfinished}
use Rattle.general_laws.specs.CoreLaw.{IsCore}
use Rattle.part_copy.specs.Found.{IsPartRefuted}
use Rattle.mus_core.specs.declared.mus.Mus.{Mus}
use Rattle.mus_core.specs.declared.mus.Mus.TheVariants.{Core, Model, Unfinished}

-- a literal for each variable, ascending, and together they satisfy each clause
pub record IsWholeModel (F : Cnf) (lits : List ℤ) : Type 0 where
  pub total : map variable lits ≡ variables_to F.vars
  pub satisfied : IsModel F (all_of F) (assignment_of lits)

-- a core whose refutation has at most `conflicts` learned clauses, each step reached backwards from the last one
pub record IsCoreWithin (F : Cnf) (conflicts : ℕ) (r : MusResult) : Type 0 where
  pub core : IsCore F r.core r.round r.without
  pub needed : IsTrue (is_trimmed r.round)
  pub most : length (learned_steps (r.round ∷ [])) ≤ conflicts

-- WHERE THE BUDGET IS USED UP

-- The texts are the clauses at the positions. Over them as a formula of their own the open round has learned as many
-- clauses as were allowed, which are fewer than 3^n for the n variables of the formula, and it is not at its end.
pub record IsStoppedAt (F : Cnf) (conflicts : ℕ) (part : List ℕ) (texts : Cnf) (r : Round) : Type 0 where
  pub positions : IsTrue (are_positions F part)
  pub texts_are : texts ≡ clauses_at F part
  pub unfinished : IsUnfinished texts (positions_of texts) conflicts (r ∷ [])
  pub few : conflicts < 3 ^ F.vars

-- some assignment satisfies each clause of the part, or a search over it stopped with as many learned clauses as were allowed
abbrev pub IsNotRefuted : Cnf → ℕ → List ℕ → Type 0
IsNotRefuted F conflicts part = IsSatisfiable F (among part)
    ⊎ ((r : Round) × IsUnfinished (clauses_at F part) (positions_of (clauses_at F part)) conflicts (r ∷ []))

-- It is a part of the formula, and no part is refuted: those before it have models.
pub record StopsAmong (F : Cnf) (conflicts : ℕ) (part : List ℕ) : Type 0 where
  pub before : List (List ℕ)
  pub behind : List (List ℕ)
  pub parts : AreParts F (before ++ part ∷ behind)
  pub models : AllByRecursion (λ p. IsSatisfiable F (among p)) before
  pub others : AllByRecursion (IsNotRefuted F conflicts) behind

-- They are all but one of the clauses of a set that was refuted within the budget, and was being made smaller.
pub record LeavesOneOut (F : Cnf) (conflicts : ℕ) (part : List ℕ) : Type 0 where
  pub whole : List ℕ
  pub positions : IsTrue (are_positions F whole)
  pub round : Round
  pub refuted : IsPartRefuted F whole conflicts round
  pub left_out : ℕ
  pub there : IsTrue (among whole left_out)
  pub others : part ≡ filter (λ p. not (p == left_out)) whole

-- which clauses may be searched when the budget is used up
abbrev pub MayStopAt : Cnf → ℕ → List ℕ → Type 0
MayStopAt F conflicts part = LeavesOneOut F conflicts part ⊎ StopsAmong F conflicts part

-- an open round over such clauses
pub record IsUndecidedAt (F : Cnf) (conflicts : ℕ) (part : List ℕ) (texts : Cnf) (r : Round) : Type 0 where
  pub stopped : IsStoppedAt F conflicts part texts r
  pub why : MayStopAt F conflicts part

-- HOW IT ENDS

-- a core, a model, or an open round
abbrev pub IsMus : Cnf → ℕ → Mus → Type 0
IsMus F conflicts (Core r) = IsCoreWithin F conflicts r
IsMus F conflicts (Model lits) = IsWholeModel F lits
IsMus F conflicts (Unfinished part texts round) = IsUndecidedAt F conflicts part texts round

-- the result is a core of these positions
abbrev pub HasCore : List ℕ → Mus → Type 0
HasCore ps (Core r) = r.core ≡ ps
HasCore ps (Model lits) = ⊥
HasCore ps (Unfinished part texts round) = ⊥

-- where a clause is empty, the first such one by itself is the core
abbrev pub TakesEmpty : Cnf → Mus → Type 0
TakesEmpty F m = IfSome (find (λ p. is_empty (clause_at F p)) (positions_of F)) (λ p. HasCore (p ∷ []) m)
