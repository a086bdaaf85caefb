-- Whether a document's numbers are a formula's.
use Rattle.std.proofs.Common.{◌≡◌, ℕ, length, refl, Some, None}
use Rattle.std.specs.Prelude.{◌==◌}
use Rattle.std.proofs.lemmas.Bool.{eq-eqb, ne_eqb}
use Rattle.std.proofs.Math.Bool.{and-false}
use Rattle.lk_model.specs.Formulas.Formula.{Cnf}
use Rattle.lk_model.specs.Checks.CommonChecks.{other_formula}

-- the same numbers
pub same_formula : (F : Cnf) (vars clauses : ℕ) → vars ≡ F.vars → clauses ≡ length F.clauses → None ≡ (other_formula F vars clauses).place
unfolding other_formula
same_formula F vars clauses a b = rw (eq-eqb vars F.vars a, eq-eqb clauses (length F.clauses) b) refl

-- another number of variables
pub other_vars : (F : Cnf) (vars clauses : ℕ) → (vars ≡ F.vars → ⊥) → Some 0 ≡ (other_formula F vars clauses).place
unfolding other_formula
other_vars F vars clauses a = rw (ne_eqb vars F.vars a) refl

-- another number of clauses
pub other_clauses : (F : Cnf) (vars clauses : ℕ) → (clauses ≡ length F.clauses → ⊥) → Some 0 ≡ (other_formula F vars clauses).place
unfolding other_formula
other_clauses F vars clauses b = rw (ne_eqb clauses (length F.clauses) b, and-false (vars == F.vars)) refl
