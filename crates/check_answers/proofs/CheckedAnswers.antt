-- What the checks of an answer come to.
use Rattle.std.proofs.Common.{◌≡◌, ℕ, not, List, [], ◌∷◌, refl, sym, ◌∙◌, ap, ℤ, Option, Some, None}
use Rattle.std.specs.Prelude.{find, option_map}
use Rattle.std.specs.Option.{option_map_or}
use Rattle.lk_model.specs.Formulas.Formula.{Cnf, positions_of, clause_at}
use Rattle.lk_model.specs.Formulas.Crossed.{no_variable}
use Rattle.lk_model.specs.Formulas.Assignment.{Assignment, assignment_of, satisfies}
use Rattle.lk_model.specs.Checks.RoundChecks.{bad_step}
use Rattle.lk_model.specs.declared.document.Round.{Round}
use Rattle.lk_model.specs.declared.verdict.Kind.{Kind}
use Rattle.lk_model.specs.declared.verdict.Kind.TheVariants.{ModelFails, BadStep}
use Rattle.lk_model.specs.declared.verdict.Why.{Why}
use Rattle.check_answers.specs.AnswerChecks.{model_fails, first_failure_of_answer}
use Rattle.lk_model.specs.declared.answer.Answer.TheVariants.{Model, Refuted}

-- a failing check of a kind at a place
abbrev pub why_of : Kind → ℕ → Why
why_of kind place = record { kind = kind; place = place }

place_of : (kind : Kind) (o : Option ℕ) → option_map_or (λ (place : ℕ). Some (why_of kind place)) o None ≡ option_map (why_of kind) o
place_of kind None = refl
place_of kind (Some place) = refl

-- the check of a model, by the first place where its values don't satisfy a clause
pub by_values : (F : Cnf) (lits : List ℤ) (φ : Assignment) (o : Option ℕ) → φ ≡ assignment_of lits
    → o ≡ find (λ p. not (satisfies φ (clause_at F p))) (positions_of F) → option_map (why_of ModelFails) o ≡ first_failure_of_answer F (Model lits)
unfolding model_fails
by_values F lits φ o same is =
    ap (option_map (why_of ModelFails)) (is ∙ ap (λ (ψ : Assignment). find (λ p. not (satisfies ψ (clause_at F p))) (positions_of F)) same)
    ∙ sym (place_of ModelFails (find (λ p. not (satisfies (assignment_of lits) (clause_at F p))) (positions_of F)))

-- the check of a refutation, by its first bad step over all positions
pub by_round : (F : Cnf) (r : Round) (o : Option ℕ) (part : List ℕ) → part ≡ positions_of F → o ≡ (bad_step no_variable F part (r ∷ [])).place
    → option_map (why_of BadStep) o ≡ first_failure_of_answer F (Refuted r)
unfolding bad_step
by_round F r o part all is =
    ap (option_map (why_of BadStep)) (is ∙ ap (λ (ps : List ℕ). (bad_step no_variable F ps (r ∷ [])).place) all)
    ∙ sym (place_of BadStep (bad_step no_variable F (positions_of F) (r ∷ [])).place)
