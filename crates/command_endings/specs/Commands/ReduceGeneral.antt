-- The command `reduce general`.
use Rattle.std.specs.Prelude.{◌≡◌, ℕ, ◌*◌, ◌^◌, ◌≤◌, ◌<◌, List, [], ◌∷◌, ◌++◌, length, Option, IsTrue}
use Rattle.std.specs.List.{AllByRecursion}
use Rattle.lk_model.specs.Formulas.Formula.{Cnf}
use Rattle.lk_model.specs.Formulas.Crossed.{protected_by}
use Rattle.lk_model.specs.Formulas.Parts.{IsPartUnder, ArePartsUnder}
use Rattle.lk_model.specs.Chains.Rounds.{names_within, AreNeeded}
use Rattle.lk_model.specs.Chains.Searches.{WantsMore}
use Rattle.lk_model.specs.Checks.RoundChecks.{learned_steps}
use Rattle.lk_model.specs.Reduction.{WritesReduction, IsUnfinishedText}
use Rattle.lk_model.specs.declared.class.Class.TheVariants.{General}
use Rattle.round_laws.specs.Budgets.{CanBeFinished}
use Rattle.lk_model.specs.Chains.Budgets.{AreWithinBudget}
use Rattle.lk_model.specs.Documents.Documents.{rounds_in}
use Rattle.command_words.specs.Settings.{Options}
use Rattle.status_lines.specs.RunLines.{conflicts_line}
use Rattle.status_lines.specs.declared.status.Status.{Status}
use Rattle.status_lines.specs.declared.status.Status.TheVariants.{Done, Budget}

-- `conflicts` learned clauses are enough for each formula of as many variables
abbrev pub IsEnoughToReduce : ℕ → Cnf → Type 0
IsEnoughToReduce conflicts F = F.vars * 3 ^ F.vars ≤ conflicts

-- WHERE ALL OF THE KERNEL IS FOUND

-- What is written is the text of the document of a reduction of the formula, in which the listed variables are protected. Of
-- its rounds each step is used and each blocks a new variable, and those over each part have at most as many learned clauses
-- as were allowed.
pub record WritesFinished (options : Options) (F : Cnf) (written : List ℕ) : Type 0 where
  pub reduction : WritesReduction F General options.protect options.pivots written
  pub needed : AreNeeded F (protected_by reduction.document.protect) (rounds_in reduction.document.body)
  pub budget : AreWithinBudget (protected_by reduction.document.protect) F options.conflicts (rounds_in reduction.document.body)

-- WHERE THE BUDGET IS USED UP

-- What is written is the text of a sound unfinished document of the formula, with progress and as many learned clauses as
-- were allowed, in which the listed variables are protected. Its chains name positions of one part alone, of which the last
-- round is open (`WantsMore`). The parts before it can be finished with as many learned clauses.
pub record WritesUnfinishedKernel (listed : Option (List ℕ)) (conflicts : ℕ) (F : Cnf) (written : List ℕ) : Type 0 where
  pub unfinished : IsUnfinishedText F listed conflicts written
  pub learned : length (learned_steps unfinished.document.rounds) ≡ conflicts
  pub part : List ℕ
  pub is_part : IsPartUnder (protected_by unfinished.document.protect) F part
  pub names : IsTrue (names_within F part unfinished.document.rounds)
  pub wants : WantsMore F (protected_by unfinished.document.protect) part unfinished.document.rounds
  pub before : List (List ℕ)
  pub after : List (List ℕ)
  pub parts : ArePartsUnder (protected_by unfinished.document.protect) F (before ++ part ∷ after)
  pub finished : AllByRecursion (CanBeFinished (protected_by unfinished.document.protect) F conflicts) before

-- HOW IT ENDS

-- It writes the document of a reduction of the formula for the class, in which the listed variables are protected; or an
-- unfinished one, where the budget is not enough.
pub data Answers (options : Options) (F : Cnf) (written said : List ℕ) : Status → Type 0 where
  finished : WritesFinished options F written → said ≡ [] → Answers options F written said Done
  stopped : WritesUnfinishedKernel options.protect options.conflicts F written → options.conflicts < F.vars * 3 ^ F.vars → said ≡ conflicts_line options.conflicts → Answers options F written said Budget

-- done, where the budget is enough
pub data Decides (options : Options) (F : Cnf) : Status → Type 0 where
  is_enough : IsEnoughToReduce options.conflicts F → Decides options F Done
