-- What an answer shows of which no check fails.
use Rattle.std.proofs.Common.{◌≡◌, ℕ, true, not, List, [], ◌∷◌, refl, ap, Option, Some, None, length}
use Rattle.std.specs.Option.{option_map_or}
use Rattle.std.proofs.lemmas.Bool.{and_from, not-false}
use Rattle.lk_model.specs.declared.class.Class.TheVariants.{General}
use Rattle.lk_model.specs.declared.document.Round.{Round}
use Rattle.lk_model.specs.declared.verdict.Kind.{Kind}
use Rattle.lk_model.specs.declared.verdict.Why.{Why}
use Rattle.lk_model.specs.Lists.{among}
use Rattle.lk_model.specs.Formulas.Formula.{Cnf, positions_of, clause_at}
use Rattle.lk_model.specs.Formulas.Crossed.{no_variable}
use Rattle.lk_model.specs.Formulas.Assignment.{assignment_of, satisfies}
use Rattle.lk_model.specs.Formulas.Autarky.{Within}
use Rattle.lk_model.specs.Formulas.Lean.{all_of, Kernel}
use Rattle.lk_model.specs.Formulas.Minimal.{IsUnsatisfiable}
use Rattle.lk_model.specs.Chains.Rounds.{used_positions}
use Rattle.lk_model.specs.Checks.Check.{Check, first_of}
use Rattle.lk_model.specs.Checks.RoundChecks.{bad_step}
use Rattle.lk_model.specs.Documents.Form.{are_steps, is_whole}
use Rattle.lk_model.proofs.Booleans.{and_true}
use Rattle.lk_model.proofs.Founds.{none_at, none_found, is_position}
use Rattle.general_laws.proofs.Refuting.{refutation_law}
use Rattle.general_laws.proofs.UsedLaws.{used_law}
use Rattle.lk_model.specs.Documents.Answers.{is_answer}
use Rattle.check_answers.specs.AnswerChecks.{model_fails, first_failure_of_answer}
use Rattle.check_answers.specs.AnswerLaw.{Shows, AnswerLaw}
use Rattle.lk_model.specs.declared.answer.Answer.{Answer}
use Rattle.lk_model.specs.declared.answer.Answer.TheVariants.{Model, Refuted, Core}
use Rattle.check_answers.proofs.CoreAnswers.{core_shown, core_passes, core_minimal, core_kernel, core_written}
use Rattle.lk_model.proofs.TotalLists.{total_variables}

-- one check by itself
no_place : (kind : Kind) (o : Option ℕ) → option_map_or (λ (place : ℕ). Some (let why : Why = record { kind = kind; place = place } in why)) o None ≡ None → o ≡ None
no_place kind None e = refl
no_place kind (Some place) e = absurd (let f : ⊥ = cc in f)

passes_one : (c : Check) → c.place ≡ None → first_of (c ∷ []) ≡ None
passes_one c e = rw e refl

shown : (F : Cnf) (a : Answer) → is_answer F.vars (length F.clauses) a ≡ true → first_failure_of_answer F a ≡ None → Shows F a
unfolding model_fails
shown F (Model lits) form e = λ p inside.
    not-false (satisfies (assignment_of lits) (clause_at F p))
    (none_at (λ p. not (satisfies (assignment_of lits) (clause_at F p))) F p (no_place (model_fails F lits).kind (model_fails F lits).place e) inside)
shown F (Refuted r) form e =
    let both = and_true (are_steps F.vars (length F.clauses) r.steps) (is_whole r) form in
    record {
      steps = both.0;
      whole = both.1;
      stated = no_place (bad_step no_variable F (positions_of F) (r ∷ [])).kind (bad_step no_variable F (positions_of F) (r ∷ [])).place e;
    }
shown F (Core a) form e = core_shown F a form e

passes : (F : Cnf) (a : Answer) → is_answer F.vars (length F.clauses) a ≡ true → Shows F a → first_failure_of_answer F a ≡ None
unfolding model_fails
passes F (Model lits) form h =
    passes_one (model_fails F lits) (none_found (λ p. not (satisfies (assignment_of lits) (clause_at F p))) (positions_of F) (λ p m. ap not (h p (is_position F p m))))
passes F (Refuted r) form h = passes_one (bad_step no_variable F (positions_of F) (r ∷ [])) h.stated
passes F (Core a) form h = core_passes F a form h

no_model : (F : Cnf) (r : Round) → Shows F (Refuted r) → IsUnsatisfiable F (all_of F)
no_model F r h φ model = refutation_law.no_model F (positions_of F) r h φ (λ p m. model p (is_position F p m))

used : (F : Cnf) (kept : List ℕ) (r : Round) → Shows F (Refuted r) → Kernel General F kept → Within (among (used_positions F r)) (among kept)
used F kept r h kernel = used_law.used F kept r h kernel

-- all of it
pub answer_law : AnswerLaw
answer_law = record {
  shows = λ F a form. (shown F a form, passes F a form);
  no_model = no_model;
  used = used;
  minimal = core_minimal;
  kernel = core_kernel;
  total = λ n m lits. total_variables n lits;
  refutes = λ F part r h. and_from (are_steps F.vars (length F.clauses) r.steps) (is_whole r) h.steps h.whole;
  written = core_written;
}
