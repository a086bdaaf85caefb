-- The clauses of a formula.
use Rattle.std.proofs.Common.{◌≡◌, ℕ, zero, suc, true, List, [], ◌∷◌, refl, ℤ, slice_index_or, ◌+◌, get_or, ap, arith, ◌<◌, length, drop, add-one, drop-cons, replicate, sum_by}
use Rattle.std.proofs.lemmas.List.{get_or_past}
use Rattle.std.proofs.lemmas.List.Sums.{sum_by-cons}
use Rattle.std.specs.List.{list_all}
use Rattle.lk_model.specs.Formulas.Literal.{is_literal, is_clause}
use Rattle.lk_model.specs.Formulas.Formula.{Cnf, clause_at, is_formula}
use Rattle.lk_model.proofs.Booleans.{and_true}

clause_form : (n : ℕ) (cs : List (List ℤ)) (k : ℕ) → list_all (is_clause n) cs ≡ true → is_clause n (slice_index_or cs k []) ≡ true
clause_form n [] k e = refl
clause_form n (c ∷ cs) zero e = (and_true (is_clause n c) _ e).0
clause_form n (c ∷ cs) (suc k) e = clause_form n cs k ((and_true (is_clause n c) _ e).1)

-- the clause at a position is one over the variables
pub form_at : (F : Cnf) (p : ℕ) → is_formula F ≡ true → is_clause F.vars (clause_at F p) ≡ true
form_at F zero e = refl
form_at F (suc k) e = clause_form F.vars F.clauses k e

-- and so its literals are
pub literals_of : (F : Cnf) (p : ℕ) → is_formula F ≡ true → list_all (is_literal F.vars) (clause_at F p) ≡ true
literals_of F p e = (and_true _ _ (form_at F p e)).0

-- the clause at the next position
pub next_clause : (F : Cnf) (i : ℕ) → clause_at F (i + 1) ≡ get_or F.clauses i []
next_clause F i = let e : i + 1 ≡ suc i = omega arith in ap (clause_at F) e

-- past all positions there is none
pub clause_past : (F : Cnf) (p : ℕ) → length F.clauses < p → clause_at F p ≡ []
clause_past F zero lt = refl
clause_past F (suc k) lt = get_or_past F.clauses k [] (omega (arith, lt))

-- the clauses from a place on
pub clauses_from : (F : Cnf) (k : ℕ) → k < length F.clauses → drop k F.clauses ≡ clause_at F (k + 1) ∷ drop (k + 1) F.clauses
clauses_from F k h = rw (add-one, drop-cons F.clauses k []) refl

-- empty clauses are clauses
pub empty_clauses : (n k : ℕ) → list_all (is_clause n) (replicate k []) ≡ true
empty_clauses n zero = refl
empty_clauses n (suc k) = empty_clauses n k

-- and have no literal
pub no_literals : (k : ℕ) → sum_by length (replicate {A = List ℤ} k []) ≡ 0
no_literals zero = refl
no_literals (suc k) = omega (arith, sum_by-cons {X = List ℤ} length [] (replicate k []), no_literals k)
