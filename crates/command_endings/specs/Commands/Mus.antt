-- The command `mus`.
use Rattle.std.specs.Prelude.{◌≡◌, ℕ, ◌^◌, ◌<◌, ◌≤◌, List, [], ◌∷◌, length, None, IfSome, IsTrue}
use Rattle.lk_model.specs.Formulas.Formula.{Cnf, clauses_at, positions_of, first_empty}
use Rattle.lk_model.specs.Formulas.Crossed.{no_variable}
use Rattle.lk_model.specs.Formulas.Lean.{are_positions}
use Rattle.lk_model.specs.Chains.Rounds.{is_trimmed}
use Rattle.lk_model.specs.Chains.Searches.{WantsMore}
use Rattle.lk_model.specs.Checks.RoundChecks.{learned_steps}
use Rattle.lk_model.specs.Reduction.{IsUnfinishedText}
use Rattle.lk_model.specs.declared.document.MusAnswer.{MusAnswer}
use Rattle.lk_model.specs.declared.document.Round.{Round}
use Rattle.lk_model.specs.declared.answer.Answer.TheVariants.{Core}
use Rattle.mus_core.specs.Found.{MayStopAt}
use Rattle.command_words.specs.Settings.{Options}
use Rattle.status_lines.specs.RunLines.{conflicts_line}
use Rattle.command_endings.specs.Commands.Solve.{IsEnoughToDecide, IsEnoughToRefute, HasModel, HasNoModel, WritesAnswer, WritesModel}
use Rattle.command_endings.specs.Commands.Verify.{IsMinimalCore}
use Rattle.status_lines.specs.declared.status.Status.{Status}
use Rattle.status_lines.specs.declared.status.Status.TheVariants.{Done, Budget, Satisfiable}

-- WHERE IT IS DECIDED

-- What is written is the text of a core of the formula, in form, of which no check fails: so it is minimally unsatisfiable, and
-- within the general kernel. Of its refutation each step is used, and it has at most as many learned clauses as were allowed.
-- If a clause is empty, the first such one is the core.
pub record WritesCore (options : Options) (F : Cnf) (written : List ℕ) : Type 0 where
  pub core : MusAnswer
  pub writes : WritesAnswer F (Core core) written
  pub minimal : IsMinimalCore F core.core
  pub needed : IsTrue (is_trimmed core.round)
  pub most : length (learned_steps (core.round ∷ [])) ≤ options.conflicts
  pub empty : IfSome (first_empty F) (λ p. core.core ≡ p ∷ [])

-- WHERE THE BUDGET IS USED UP

-- No clause is empty. What is written is the text of an unfinished document that is sound for the formula of its own clause lines,
-- which are the clauses at some positions, ascending. It has one round, with as many learned clauses as were allowed, which are
-- fewer than all that can be learned, and the search there is not at its end (`WantsMore`). These clauses are all but one of
-- a set without a model; or they are a part of the formula, and no part is refuted (`MayStopAt`).
pub record WritesUnfinishedCore (options : Options) (F : Cnf) (written : List ℕ) : Type 0 where
  pub filled : first_empty F ≡ None
  pub part : List ℕ
  pub positions : IsTrue (are_positions F part)
  pub unfinished : IsUnfinishedText (clauses_at F part) None options.conflicts written
  pub texts : unfinished.document.texts ≡ clauses_at F part
  pub round : Round
  pub one : unfinished.document.rounds ≡ round ∷ []
  pub learned : length (learned_steps (round ∷ [])) ≡ options.conflicts
  pub few : options.conflicts < 3 ^ F.vars
  pub wants : WantsMore (clauses_at F part) no_variable (positions_of (clauses_at F part)) (round ∷ [])
  pub why : MayStopAt F options.conflicts part

-- HOW IT ENDS

-- it writes a core, a model or an unfinished document
pub data Answers (options : Options) (F : Cnf) (written said : List ℕ) : Status → Type 0 where
  extracted : WritesCore options F written → said ≡ [] → Answers options F written said Done
  satisfied : WritesModel F written → said ≡ [] → Answers options F written said Satisfiable
  stopped : WritesUnfinishedCore options F written → said ≡ conflicts_line options.conflicts → Answers options F written said Budget

-- Where the budget is enough, that the formula has no model, or that it has one. Where a clause is empty, each budget is enough.
pub data Decides (options : Options) (F : Cnf) : Status → Type 0 where
  has_none : IsEnoughToRefute options.conflicts F → HasNoModel F → Decides options F Done
  has_model : IsEnoughToDecide options.conflicts F → HasModel F → Decides options F Satisfiable
