-- The first checks, which pass for the document of what is found.
use Rattle.std.proofs.Common.{◌≡◌, ℕ, Bool, true, false, not, ◌&&◌, cond, List, [], length, zip, refl, ◌∙◌, ap, ℤ, None, is_some, IsTrue, inl, inr}
use Rattle.std.specs.Prelude.{◌==◌, find}
use Rattle.std.specs.Option.{option_map_or}
use Rattle.std.proofs.lemmas.Bool.{eq-eqb, cases_Bool}
use Rattle.lk_model.specs.Lists.{among}
use Rattle.lk_model.specs.Formulas.Literal.{is_same_list}
use Rattle.lk_model.specs.Formulas.Formula.{Cnf, clause_at, positions_of, variables_to}
use Rattle.lk_model.specs.Formulas.Crossed.{Variables, no_variable}
use Rattle.lk_model.specs.Formulas.Assignment.{assignment_of, touches, satisfies}
use Rattle.lk_model.specs.Formulas.Autarky.{IsAutarky}
use Rattle.lk_model.specs.Formulas.Lean.{all_of}
use Rattle.lk_model.specs.Formulas.Protected.{SetsNone}
use Rattle.lk_model.specs.Documents.Documents.{clause_line_at}
use Rattle.lk_model.specs.Checks.CommonChecks.{other_formula, kept_clause, protected_set, autarky_fails, not_autarky, removal_fails, not_exactly_removed}
use Rattle.lk_model.specs.Checks.RoundChecks.{every_clause}
use Rattle.lk_model.specs.declared.document.DoneDocument.{DoneDocument}
use Rattle.lk_model.specs.declared.document.OpenDocument.{OpenDocument}
use Rattle.lk_model.proofs.Founds.{none_found, line_of, same_itself, is_position}
use Rattle.lk_model.specs.Formulas.Formula.{clauses_at}
use Rattle.kernel_laws.proofs.Tests.{follows}

-- the numbers are the formula's
pub same_formula : (F : Cnf) → (other_formula F F.vars (length F.clauses)).place ≡ None
unfolding other_formula
same_formula F = rw (eq-eqb F.vars F.vars refl, eq-eqb (length F.clauses) (length F.clauses) refl) refl

-- and so are the clause lines
pub same_lines : (F : Cnf) (d : DoneDocument) → d.texts ≡ clauses_at F d.kept → (kept_clause F d).place ≡ None
unfolding kept_clause
same_lines F d is = none_found _ d.kept (λ p there.
    let line : clause_line_at d p ≡ clause_at F p =
    ap (λ (G : Cnf). option_map_or (λ (entry : ℕ × List ℤ). entry.1) (find (λ (entry : ℕ × List ℤ). entry.0 == p) (zip d.kept G.clauses)) []) is
    ∙ line_of (clause_at F) [] d.kept p there in
    rw line (ap not (same_itself (clause_at F p))))

-- and those of an unfinished document
pub same_every : (F : Cnf) (d : OpenDocument) → d.texts ≡ F → (every_clause F d).place ≡ None
unfolding every_clause
same_every F d is = none_found _ (positions_of F) (λ p m.
    ap (λ (G : Cnf). not (is_same_list (clause_at G p) (clause_at F p))) is ∙ ap not (same_itself (clause_at F p)))

-- no variable of P is set
pub protected_passes : (P : Variables) (F : Cnf) (d : DoneDocument) → SetsNone P (assignment_of d.set) → (protected_set P F d).place ≡ None
unfolding protected_set
protected_passes P F d none = none_found (λ v. P v && is_some (assignment_of d.set v)) (variables_to F.vars) (λ v m. elim (cases_Bool (P v)) [
  | inl y ↦ rw y (none v y)
  | inr n ↦ rw n refl
])

-- and so where nothing is protected
pub none_protected : (F : Cnf) (d : DoneDocument) → (protected_set no_variable F d).place ≡ None
none_protected F d = protected_passes no_variable F d (λ v e. absurd (let f : ⊥ = cc in f))

-- the set line satisfies what it touches
pub autarky_passes : (F : Cnf) (d : DoneDocument) → IsAutarky F (all_of F) (assignment_of d.set) → (not_autarky F d).place ≡ None
unfolding not_autarky
autarky_passes F d a = none_found (autarky_fails F d) (positions_of F) (λ p there.
    follows (touches (assignment_of d.set) (clause_at F p)) (satisfies (assignment_of d.set) (clause_at F p)) (a p (is_position F p there)))

-- and touches exactly what is not kept
pub removal_at : (F : Cnf) (d : DoneDocument) (p : ℕ) → touches (assignment_of d.set) (clause_at F p) ≡ not (among d.kept p) → removal_fails F d p ≡ false
removal_at F d p touched = by_tests (among d.kept p) (touches (assignment_of d.set) (clause_at F p)) touched
  where
    by_tests : (k t : Bool) → t ≡ not k → cond k t (not t) ≡ false
    by_tests true t e = e
    by_tests false t e = ap not e

pub removal_passes : (F : Cnf) (d : DoneDocument) → ((p : ℕ) → IsTrue (all_of F p) → touches (assignment_of d.set) (clause_at F p) ≡ not (among d.kept p))
    → (not_exactly_removed F d).place ≡ None
unfolding not_exactly_removed
removal_passes F d touched = none_found (removal_fails F d) (positions_of F) (λ p there. removal_at F d p (touched p (is_position F p there)))
