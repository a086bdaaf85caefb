-- Positions of a formula, and the variables that occur there.
use Rattle.std.proofs.Common.{◌≡◌, ℕ, true, List, [], ◌∷◌, length, refl, inl, inr, arith, nat_le, ◌==◌, ℤ}
use Rattle.std.proofs.lemmas.Bool.{leb-true, le-leb, eq-eqb, and_from}
use Rattle.lk_model.specs.Lists.{among, is_between}
use Rattle.lk_model.specs.Formulas.Literal.{variable, contains, mentions}
use Rattle.lk_model.specs.Formulas.Formula.{Cnf, clause_at, is_formula, positions_of, variables_to, variable_occurs}
use Rattle.lk_model.specs.Formulas.Lean.{are_positions, all_of}
use Rattle.lk_model.proofs.Booleans.{and_true, or_true}
use Rattle.lk_model.proofs.Rising.{bounded}
use Rattle.lk_model.proofs.Counting.{among-range}
use Rattle.lk_model.proofs.Variables.{occurs, variable_bound, in_variables, position_with}
use Rattle.lk_model.proofs.ListTests.{passes_one}

-- each position is one of the list of them
pub in_positions : (F : Cnf) (p : ℕ) → all_of F p ≡ true → among (positions_of F) p ≡ true
in_positions F p a =
    let both = and_true (nat_le 1 p) (nat_le p (length F.clauses)) a in
    let least = leb-true 1 p both.0 in let most = leb-true p (length F.clauses) both.1 in
    among-range 1 (length F.clauses) p least (omega (arith, most))

-- a kept position is one of the formula
pub kept_between : (F : Cnf) (kept : List ℕ) (p : ℕ) → are_positions F kept ≡ true → among kept p ≡ true → is_between 1 (length F.clauses) p ≡ true
kept_between F kept p rise there =
    let b = bounded 0 (length F.clauses) kept p rise there in
    and_from (nat_le 1 p) (nat_le p (length F.clauses)) (le-leb 1 p (omega (arith, b.0))) (le-leb p (length F.clauses) b.1)

-- a variable that occurs is one of the formula
pub occurring : (F : Cnf) (kept : List ℕ) (v : ℕ) → is_formula F ≡ true → variable_occurs F kept v ≡ true → among (variables_to F.vars) v ≡ true
occurring F [] v form e = absurd (let f : ⊥ = cc in f)
occurring F (p ∷ kept) v form e = elim (or_true (mentions (clause_at F p) v) (variable_occurs F kept v) e) [
  | inl here ↦ in_variables F.vars v (variable_bound F p v form here)
  | inr later ↦ occurring F kept v form later
]

-- a literal of a clause at these positions is on a variable that occurs there
pub occurs_here : (F : Cnf) (P : List ℕ) (p : ℕ) (l : ℤ) → among P p ≡ true → contains (clause_at F p) l ≡ true → variable_occurs F P (variable l) ≡ true
occurs_here F P p l m held =
    occurs F P p (variable l) m (passes_one (λ k. variable k == variable l) (clause_at F p) l held (eq-eqb (variable l) (variable l) refl))

-- a variable that occurs at some positions occurs at more
pub occurs_more : (F : Cnf) (ps qs : List ℕ) (v : ℕ) → ((p : ℕ) → among ps p ≡ true → among qs p ≡ true) → variable_occurs F ps v ≡ true → variable_occurs F qs v ≡ true
occurs_more F ps qs v more e = let w = position_with F ps v e in occurs F qs w.0 v (more w.0 w.1) w.2
