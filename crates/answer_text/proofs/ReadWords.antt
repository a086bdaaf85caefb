-- Lines of an answer that are other ones.
use Rattle.std.proofs.Common.{◌≡◌, ◌∙◌, ℕ, Bool, cond, ◌==◌, List, sym, ap, Some, None}
use Rattle.std.specs.Prelude.{codes}
use Rattle.std.proofs.lemmas.Bool.{ne_eqb}
use Rattle.line_text.specs.Fields.{fields}
use Rattle.round_text.proofs.RoundSteps.{no_round}
use Rattle.answer_text.specs.CoreDrafts.{are_two}
use Rattle.answer_text.proofs.CoreLineForms.{no_two}
use Rattle.answer_text.specs.Drafts.{next_core, next_state, open_round, next_round}
use Rattle.answer_text.specs.declared.draft.Draft.TheVariants.{Satisfiable, Unsatisfiable, Refuting}

-- what stands after the test of the first state
behind_first : (n m : ℕ) (line : List ℕ) → (line ≡ codes "s SATISFIABLE" → ⊥)
    → next_state n m (fields line) ≡ cond (m == 0) None (cond (are_two (codes "s") (codes "UNSATISFIABLE") (fields line)) (Some Unsatisfiable) (next_core n m (fields line)))
behind_first n m line other =
    ap (λ (b : Bool). cond b (Some Satisfiable) (cond (m == 0) None (cond (are_two (codes "s") (codes "UNSATISFIABLE") (fields line)) (Some Unsatisfiable) (next_core n m (fields line)))))
    (no_two (codes "s") (codes "SATISFIABLE") line other)

-- over no clauses there is none but a model
pub no_state_of_none : (n m : ℕ) (line : List ℕ) → (line ≡ codes "s SATISFIABLE" → ⊥) → m ≡ 0 → None ≡ next_state n m (fields line)
no_state_of_none n m line other none =
    sym (behind_first n m line other
    ∙ ap (λ (k : ℕ). cond (k == 0) None (cond (are_two (codes "s") (codes "UNSATISFIABLE") (fields line)) (Some Unsatisfiable) (next_core n m (fields line)))) none)

-- neither state
pub other_state : (n m : ℕ) (line : List ℕ) → (line ≡ codes "s SATISFIABLE" → ⊥) → (m ≡ 0 → ⊥) → (line ≡ codes "s UNSATISFIABLE" → ⊥) → next_core n m (fields line) ≡ next_state n m (fields line)
other_state n m line other some another =
    sym (behind_first n m line other
    ∙ ap (λ (b : Bool). cond b None (cond (are_two (codes "s") (codes "UNSATISFIABLE") (fields line)) (Some Unsatisfiable) (next_core n m (fields line)))) (ne_eqb m 0 (λ e. absurd (some e)))
    ∙ ap (λ (b : Bool). cond b (Some Unsatisfiable) (next_core n m (fields line))) (no_two (codes "s") (codes "UNSATISFIABLE") line another))

-- no round
pub no_next_round : (line : List ℕ) → (line ≡ codes "c round" → ⊥) → None ≡ next_round (fields line)
no_next_round line other = sym (ap (λ (b : Bool). cond b (Some (Refuting open_round)) None) (no_round line other))
