-- The command `solve`.
use Rattle.std.specs.Prelude.{◌≡◌, ◌⊎◌, ℕ, ◌^◌, ◌≤◌, ◌<◌, List, [], ◌∷◌, length, ℤ, None, is_some, IfSome, IsTrue}
use Rattle.lk_model.specs.Formulas.Formula.{Cnf, first_empty}
use Rattle.lk_model.specs.Formulas.Assignment.{assignment_of, IsModel}
use Rattle.lk_model.specs.Formulas.Lean.{Kernel, all_of}
use Rattle.lk_model.specs.Formulas.Minimal.{IsSatisfiable, IsUnsatisfiable}
use Rattle.lk_model.specs.Chains.Rounds.{used_positions, is_trimmed, empty_round}
use Rattle.lk_model.specs.Checks.RoundChecks.{learned_steps}
use Rattle.lk_model.specs.Reduction.{IsUnfinishedText}
use Rattle.lk_model.specs.declared.class.Class.TheVariants.{Matching}
use Rattle.lk_model.specs.declared.document.Round.{Round}
use Rattle.kernel_solve.specs.Solutions.{RefutesIn, StopsIn, most_steps}
use Rattle.lk_model.specs.Documents.Answers.{is_answer, answer_text}
use Rattle.answer_check.specs.AnswerChecks.{first_failure_of_answer}
use Rattle.lk_model.specs.declared.answer.Answer.{Answer}
use Rattle.lk_model.specs.declared.answer.Answer.TheVariants.{Model, Refuted}
use Rattle.command_words.specs.Settings.{Options}
use Rattle.status_lines.specs.RunLines.{conflicts_line}
use Rattle.command_endings.specs.Commands.Verify.{AreInKernel}
use Rattle.status_lines.specs.declared.status.Status.{Status}
use Rattle.status_lines.specs.declared.status.Status.TheVariants.{Budget, Satisfiable, Unsatisfiable}

-- `conflicts` learned clauses are enough for each formula of as many variables
abbrev pub IsEnoughToDecide : ℕ → Cnf → Type 0
IsEnoughToDecide conflicts F = 3 ^ F.vars ≤ conflicts

-- `conflicts` learned clauses are enough, or none is needed, since a clause is empty
abbrev pub IsEnoughToRefute : ℕ → Cnf → Type 0
IsEnoughToRefute conflicts F = IsEnoughToDecide conflicts F ⊎ IsTrue (is_some (first_empty F))

-- some assignment satisfies each clause, or none does
abbrev pub HasModel : Cnf → Type 0
HasModel F = IsSatisfiable F (all_of F)

abbrev pub HasNoModel : Cnf → Type 0
HasNoModel F = IsUnsatisfiable F (all_of F)

-- WHERE IT IS DECIDED

-- what is written is the text of an answer in form, of which no check fails
pub record WritesAnswer (F : Cnf) (a : Answer) (written : List ℕ) : Type 0 where
  pub form : IsTrue (is_answer F.vars (length F.clauses) a)
  pub checks : first_failure_of_answer F a ≡ None
  pub written_is : written ≡ answer_text a

-- a model: literals, one on each variable, that satisfy each clause
pub record WritesModel (F : Cnf) (written : List ℕ) : Type 0 where
  pub literals : List ℤ
  pub writes : WritesAnswer F (Model literals) written
  pub model : IsModel F (all_of F) (assignment_of literals)

-- A refutation: so no assignment satisfies the formula. The positions that it uses are in the general kernel. Each of its
-- steps is used. Steps with a literal are at most as many as clauses were allowed to be learned, and three for each literal of
-- the formula. If a clause is empty, it is the one step of the first such clause. Else it refutes one part of the matching
-- kernel, and no part before that one is refuted (`RefutesIn`).
pub record WritesRefutation (options : Options) (F : Cnf) (written : List ℕ) : Type 0 where
  pub round : Round
  pub writes : WritesAnswer F (Refuted round) written
  pub no_model : HasNoModel F
  pub used : AreInKernel F (used_positions F round)
  pub needed : IsTrue (is_trimmed round)
  pub most : length (learned_steps (round ∷ [])) ≤ most_steps F options.conflicts
  pub empty : IfSome (first_empty F) (λ p. round ≡ empty_round F p)
  pub first : first_empty F ≡ None → (part : List ℕ) × RefutesIn F options.conflicts part round

-- WHERE THE BUDGET IS USED UP

-- No clause is empty. What is written is the text of a sound unfinished document of the formula. It has one round, with as
-- many learned clauses as were allowed, which are fewer than all that can be learned. Its chains name positions of one part of
-- the matching kernel, where the search is not at its end. No part is refuted, and those before that one have models (`StopsIn`).
pub record WritesUnfinishedSearch (options : Options) (F : Cnf) (written : List ℕ) : Type 0 where
  pub filled : first_empty F ≡ None
  pub unfinished : IsUnfinishedText F None options.conflicts written
  pub round : Round
  pub one : unfinished.document.rounds ≡ round ∷ []
  pub learned : length (learned_steps (round ∷ [])) ≡ options.conflicts
  pub few : options.conflicts < 3 ^ F.vars
  pub part : List ℕ
  pub stops : StopsIn F options.conflicts part round

-- HOW IT ENDS

-- it writes one of the three
pub data Answers (options : Options) (F : Cnf) (written said : List ℕ) : Status → Type 0 where
  satisfied : WritesModel F written → said ≡ [] → Answers options F written said Satisfiable
  refuted : WritesRefutation options F written → said ≡ [] → Answers options F written said Unsatisfiable
  stopped : WritesUnfinishedSearch options F written → said ≡ conflicts_line options.conflicts → Answers options F written said Budget

-- Where the budget is enough, that the formula has a model, or that it has none. Each budget is enough where a clause is empty,
-- or where the matching kernel is.
pub data Decides (options : Options) (F : Cnf) : Status → Type 0 where
  has_model : IsEnoughToDecide options.conflicts F → HasModel F → Decides options F Satisfiable
  no_kernel : Kernel Matching F [] → Decides options F Satisfiable
  has_none : IsEnoughToRefute options.conflicts F → HasNoModel F → Decides options F Unsatisfiable
