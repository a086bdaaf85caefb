-- The command `verify`.
use Rattle.std.specs.Prelude.{◌≡◌, ℕ, List, [], Option, Some, None, IsTrue}
use Rattle.lk_model.specs.Lists.{among}
use Rattle.lk_model.specs.Formulas.Formula.{Cnf}
use Rattle.lk_model.specs.Formulas.Assignment.{assignment_of, IsModel}
use Rattle.lk_model.specs.Formulas.Autarky.{Within}
use Rattle.lk_model.specs.Formulas.Lean.{Kernel, all_of, are_positions}
use Rattle.lk_model.specs.Formulas.Minimal.{IsUnsatisfiable, IsMinimallyUnsatisfiable}
use Rattle.lk_model.specs.Chains.Rounds.{used_positions}
use Rattle.lk_model.specs.Texts.PlainText.{line}
use Rattle.lk_model.specs.declared.class.Class.TheVariants.{General}
use Rattle.lk_model.specs.declared.document.Round.{Round}
use Rattle.lk_model.specs.declared.verdict.Why.{Why}
use Rattle.lean_checker.specs.Verdicts.{verdict_words}
use Rattle.lean_checker.specs.declared.verdict.Verdict.{Verdict}
use Rattle.lean_checker.specs.declared.verdict.Verdict.TheVariants as verdict
use Rattle.answer_check.specs.AnswerChecks.{first_failure_of_answer}
use Rattle.lk_model.specs.declared.answer.Answer.{Answer as AnyAnswer}
use Rattle.lk_model.specs.declared.answer.Answer.TheVariants as answer
use Rattle.status_lines.specs.Verdicts.{verdict_status}
use Rattle.status_lines.specs.declared.status.Status.{Status}

-- the verdict on an answer: accepted, or the first check that fails
abbrev pub verdict_by : Option Why → Verdict
verdict_by None = verdict.Accepted
verdict_by (Some why) = verdict.No why

abbrev pub verdict_of : Cnf → AnyAnswer → Verdict
verdict_of F a = verdict_by (first_failure_of_answer F a)

-- the positions are in the general kernel of the formula, which has one
pub record AreInKernel (F : Cnf) (positions : List ℕ) : Type 0 where
  pub kept : List ℕ
  pub kernel : Kernel General F kept
  pub within : Within (among positions) (among kept)

-- a refutation shows that the formula has no model, and the positions that it uses are in the general kernel
pub record IsRefutedInKernel (F : Cnf) (round : Round) : Type 0 where
  pub no_model : IsUnsatisfiable F (all_of F)
  pub used : AreInKernel F (used_positions F round)

-- A core is positions, ascending. It shows that the formula has no model: its clauses have none, each smaller set of them has
-- one, and they are in the general kernel.
pub record IsMinimalCore (F : Cnf) (core : List ℕ) : Type 0 where
  pub positions : IsTrue (are_positions F core)
  pub no_model : IsUnsatisfiable F (all_of F)
  pub minimal : IsMinimallyUnsatisfiable F (among core)
  pub kernel : AreInKernel F core

-- What an accepted answer shows, whoever made it: its literals satisfy each clause, or the formula has no model, or besides the
-- core is minimally unsatisfiable.
abbrev pub IsProvedAnswer : Cnf → AnyAnswer → Type 0
IsProvedAnswer F (answer.Model literals) = IsModel F (all_of F) (assignment_of literals)
IsProvedAnswer F (answer.Refuted round) = IsRefutedInKernel F round
IsProvedAnswer F (answer.Core core) = IsMinimalCore F core.core

-- It writes the verdict.
pub record Answers (F : Cnf) (a : AnyAnswer) (status : Status) (written said : List ℕ) : Type 0 where
  pub status_is : status ≡ verdict_status (verdict_of F a)
  pub writes : written ≡ line (verdict_words (verdict_of F a))
  pub silent : said ≡ []
  pub proved : first_failure_of_answer F a ≡ None → IsProvedAnswer F a

-- the status is that of the verdict
abbrev pub Decides : Cnf → AnyAnswer → Status → Type 0
Decides F a status = status ≡ verdict_status (verdict_of F a)
