-- What an answer shows of which no check fails.
use Rattle.std.specs.Prelude.{◌≡◌, ◌↔◌, ℕ, List, map, length, ℤ, None, IsTrue}
use Rattle.std.specs.List.{list_all}
use Rattle.lk_model.specs.declared.class.Class.TheVariants.{General}
use Rattle.lk_model.specs.declared.document.Round.{Round}
use Rattle.lk_model.specs.declared.document.MusAnswer.{MusAnswer}
use Rattle.lk_model.specs.declared.document.Without.{Without}
use Rattle.lk_model.specs.Lists.{among}
use Rattle.lk_model.specs.Formulas.Literal.{variable}
use Rattle.lk_model.specs.Formulas.Formula.{Cnf, positions_of, variables_to, clauses_at, is_formula, IsWithinLimits}
use Rattle.lk_model.specs.Formulas.Assignment.{assignment_of, IsModel}
use Rattle.lk_model.specs.Formulas.Autarky.{Within}
use Rattle.lk_model.specs.Formulas.Lean.{all_of, Kernel}
use Rattle.lk_model.specs.Formulas.Minimal.{IsUnsatisfiable, IsMinimallyUnsatisfiable}
use Rattle.lk_model.specs.Chains.Rounds.{used_positions}
use Rattle.lk_model.specs.Checks.CoreChecks.{satisfies_others}
use Rattle.lk_model.specs.Checks.RoundChecks.{IsRefutation}
use Rattle.general_laws.specs.CoreLaw.{IsCore}
use Rattle.lk_model.specs.Documents.Answers.{is_answer}
use Rattle.check_answers.specs.AnswerChecks.{first_failure_of_answer}
use Rattle.lk_model.specs.declared.answer.Answer.{Answer}
use Rattle.lk_model.specs.declared.answer.Answer.TheVariants.{Model, Refuted, Core}

-- The clauses that are written are the formula's at the core's positions, the round refutes these, and the literals for
-- each position satisfy all of them but the one there.
pub record ShowsCore (F : Cnf) (a : MusAnswer) : Type 0 where
  pub texts : a.texts ≡ clauses_at F a.core
  pub refuted : IsRefutation F a.core a.round
  pub others : IsTrue (list_all (satisfies_others F a.core) a.without)

-- what is written of a core of the formula
abbrev pub written_core : Cnf → List ℕ → Round → List Without → MusAnswer
written_core F core r without = record { vars = F.vars; clauses = length F.clauses; core = core; round = r; without = without; texts = clauses_at F core }

-- The literals satisfy each clause of the formula; or the round refutes the formula; or the core is shown.
abbrev pub Shows : Cnf → Answer → Type 0
Shows F (Model lits) = IsModel F (all_of F) (assignment_of lits)
Shows F (Refuted r) = IsRefutation F (positions_of F) r
Shows F (Core a) = ShowsCore F a

-- No check of an answer in form fails exactly where the answer shows this. A formula that a round refutes has no model, and
-- the positions that the round uses are in its general kernel. A core that is shown is minimally unsatisfiable, and is in the
-- formula's general kernel. A model is in form if its literals are on the variables from 1 to n, a round that refutes clauses
-- of a formula is in form for it, and what is written of a core is in form and shown.
pub record AnswerLaw : Type 0 where
  pub shows : (F : Cnf) (a : Answer) → IsTrue (is_answer F.vars (length F.clauses) a) → (first_failure_of_answer F a ≡ None) ↔ Shows F a
  pub no_model : (F : Cnf) (r : Round) → Shows F (Refuted r) → IsUnsatisfiable F (all_of F)
  pub used : (F : Cnf) (kept : List ℕ) (r : Round) → Shows F (Refuted r) → Kernel General F kept
      → Within (among (used_positions F r)) (among kept)
  pub minimal : (F : Cnf) (a : MusAnswer) → IsTrue (is_answer F.vars (length F.clauses) (Core a)) → Shows F (Core a) → IsMinimallyUnsatisfiable F (among a.core)
  pub kernel : (F : Cnf) (kept : List ℕ) (a : MusAnswer) → IsTrue (is_answer F.vars (length F.clauses) (Core a)) → Shows F (Core a) → Kernel General F kept
      → Within (among a.core) (among kept)
  pub total : (n m : ℕ) (lits : List ℤ) → IsTrue (is_answer n m (Model lits)) ↔ (map variable lits ≡ variables_to n)
  pub refutes : (F : Cnf) (part : List ℕ) (r : Round) → IsRefutation F part r → IsTrue (is_answer F.vars (length F.clauses) (Refuted r))
  pub written : (F : Cnf) (core : List ℕ) (r : Round) (without : List Without) → IsTrue (is_formula F) → IsWithinLimits F → IsCore F core r without
      → IsTrue (is_answer F.vars (length F.clauses) (Core (written_core F core r without))) × Shows F (Core (written_core F core r without))
