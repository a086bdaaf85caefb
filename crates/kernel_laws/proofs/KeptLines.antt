-- The clauses at rising positions are clauses of the formula, and no more than all.
use Rattle.std.proofs.Common.{◌≡◌, ℕ, true, List, length, map, refl, arith, sum_by}
use Rattle.std.specs.Prelude.{◌==◌, nat_le}
use Rattle.std.specs.List.{list_all}
use Rattle.std.proofs.lemmas.Bool.{le-leb, eq-eqb, and_from}
use Rattle.std.proofs.lemmas.List.{length-map}
use Rattle.lk_model.specs.Limits.{max_literals}
use Rattle.lk_model.specs.Formulas.Literal.{is_clause}
use Rattle.lk_model.specs.Formulas.Formula.{Cnf, clause_at, clauses_at, is_formula, literal_count, IsWithinLimits}
use Rattle.lk_model.specs.Formulas.Lean.{are_positions}
use Rattle.lk_model.specs.Documents.Form.{are_clause_lines}
use Rattle.lk_model.proofs.Clauses.{form_at}
use Rattle.lk_model.proofs.Founds.{all_pass}
use Rattle.lk_model.proofs.ClausesAt.{kept_le}

-- the clause lines of the kept positions are in form
pub lines_form : (F : Cnf) (kept : List ℕ) → is_formula F ≡ true → IsWithinLimits F → are_positions F kept ≡ true
    → are_clause_lines F.vars (length kept) (clauses_at F kept) ≡ true
unfolding are_clause_lines
lines_form F kept form limits rise =
    let vars : (F.vars == F.vars) ≡ true = eq-eqb F.vars F.vars refl in
    let count : (length (map (clause_at F) kept) == length kept) ≡ true = eq-eqb _ _ (length-map kept (clause_at F)) in
    let clauses : list_all (is_clause F.vars) (map (clause_at F) kept) ≡ true = all_pass (is_clause F.vars) (clause_at F) kept (λ p there. form_at F p form) in
    let few : nat_le (sum_by length (map (clause_at F) kept)) max_literals ≡ true = le-leb _ max_literals (omega (arith, kept_le F 0 kept rise, limits.literals)) in
    rw (vars, count, clauses, few) refl

-- and so are those of the whole formula
pub all_lines_form : (F : Cnf) → is_formula F ≡ true → IsWithinLimits F → are_clause_lines F.vars (length F.clauses) F ≡ true
unfolding are_clause_lines
all_lines_form F form limits =
    and_from _ _ (and_from _ _ (and_from _ _ (eq-eqb F.vars F.vars refl) (eq-eqb (length F.clauses) (length F.clauses) refl)) form)
    (le-leb (literal_count F) max_literals limits.literals)
