-- Clauses and formulas without the literals on the variables of a set.
use Rattle.std.proofs.Common.{◌≡◌, ℕ, zero, suc, ◌+◌, ◌<◌, ◌≤◌, Bool, true, false, not, ◌&&◌, ◌∙◌, List, [], ◌∷◌, length, take, get_or, map, refl, sym, ap, inl, inr, arith, ℤ, sum_by}
use Rattle.std.specs.List.{list_all}
use Rattle.std.specs.Ordering.{int_eq}
use Rattle.std.proofs.lemmas.Bool.{cases_Bool, and_from}
use Rattle.std.proofs.lemmas.Bool.Decides.{Decides-int_eq}
use Rattle.std.proofs.lemmas.List.Sums.{sum_by-cons}
use Rattle.std.proofs.lemmas.Map.Views.{any-filter_same}
use Rattle.lk_model.specs.Formulas.Literal.{variable, contains, is_literal, is_distinct, is_clause}
use Rattle.lk_model.specs.Formulas.Formula.{Cnf, is_formula, literal_count}
use Rattle.lk_model.specs.Formulas.Crossed.{Variables, crossed_out, formula_without}
use Rattle.lk_model.proofs.Booleans.{and_true}
use Rattle.lk_model.proofs.ListTests.{all_left}

-- the literals left are those outside P
pub contains_crossed : (P : Variables) (c : List ℤ) (l : ℤ) → contains (crossed_out P c) l ≡ (not (P (variable l)) && contains c l)
contains_crossed P c l = any-filter_same (int_eq l) (λ k. not (P (variable k))) (not (P (variable l)))
    (λ k e. ap (λ (x : ℤ). not (P (variable x))) (sym ((Decides-int_eq l k).0 e))) c

-- they are over the same variables, each once
literals_crossed : (P : Variables) (n : ℕ) (c : List ℤ) → list_all (is_literal n) c ≡ true → list_all (is_literal n) (crossed_out P c) ≡ true
literals_crossed P n c e = all_left (is_literal n) (λ l. not (P (variable l))) c e

pub distinct_crossed : (P : Variables) (c : List ℤ) → is_distinct c ≡ true → is_distinct (crossed_out P c) ≡ true
distinct_crossed P [] e = refl
distinct_crossed P (l ∷ c) e =
    let both = and_true (not (contains c l)) (is_distinct c) e in
    elim (cases_Bool (P (variable l))) [
      | inl y ↦ rw y (distinct_crossed P c both.1)
      | inr m ↦ rw m (and_from (not (contains (crossed_out P c) l)) (is_distinct (crossed_out P c)) (apart m both.0) (distinct_crossed P c both.1))
    ]
  where
    at_tests : (a b : Bool) → not b ≡ true → not (not a && b) ≡ true
    at_tests a true h = absurd (let f : ⊥ = cc in f)
    at_tests true b h = refl
    at_tests false b h = h

    apart : P (variable l) ≡ false → not (contains c l) ≡ true → not (contains (crossed_out P c) l) ≡ true
    apart m h = ap not (contains_crossed P c l) ∙ at_tests (P (variable l)) (contains c l) h

-- so they make a clause
pub clause_crossed : (P : Variables) (n : ℕ) (c : List ℤ) → is_clause n c ≡ true → is_clause n (crossed_out P c) ≡ true
clause_crossed P n c e =
    let parts = and_true (list_all (is_literal n) c) (is_distinct c) e in
    and_from (list_all (is_literal n) (crossed_out P c)) (is_distinct (crossed_out P c)) (literals_crossed P n c parts.0) (distinct_crossed P c parts.1)

-- and the formula without P is one
pub formula_form : (P : Variables) (F : Cnf) → is_formula F ≡ true → is_formula (formula_without F P) ≡ true
formula_form P F form = clauses F.clauses form
  where
    clauses : (cs : List (List ℤ)) → list_all (is_clause F.vars) cs ≡ true → list_all (is_clause F.vars) (map (crossed_out P) cs) ≡ true
    clauses [] e = refl
    clauses (c ∷ cs) e =
        let both = and_true (is_clause F.vars c) (list_all (is_clause F.vars) cs) e in
        and_from (is_clause F.vars (crossed_out P c)) (list_all (is_clause F.vars) (map (crossed_out P) cs)) (clause_crossed P F.vars c both.0) (clauses cs both.1)

-- a crossed clause is no longer
pub crossed_le : (P : Variables) (c : List ℤ) → length (crossed_out P c) ≤ length c
crossed_le P [] = omega arith
crossed_le P (l ∷ c) = elim (cases_Bool (P (variable l))) [
  | inl y ↦ rw y (let h = crossed_le P c in omega (arith, h))
  | inr n ↦ rw n (let h = crossed_le P c in omega (arith, h))
]

-- and so there are no more literals
pub fewer_literals : (P : Variables) (F : Cnf) → literal_count (formula_without F P) ≤ literal_count F
fewer_literals P F = clauses F.clauses
  where
    clauses : (cs : List (List ℤ)) → sum_by length (map (crossed_out P) cs) ≤ sum_by length cs
    clauses [] = omega arith
    clauses (c ∷ cs) =
        let h = crossed_le P c in
        let k = clauses cs in
        omega (arith, h, k, sum_by-cons length c cs, sum_by-cons length (crossed_out P c) (map (crossed_out P) cs))

-- nor are there in the first clauses and one more
pub fewer_so_far : (P : Variables) (cs : List (List ℤ)) (k : ℕ) (d : List ℤ) → k < length cs
    → sum_by length (map (crossed_out P) (take k cs)) + length (crossed_out P (get_or cs k d)) ≤ sum_by length cs
fewer_so_far P [] k d lt = absurd (omega (arith, lt))
fewer_so_far P (c ∷ cs) zero d lt = omega (arith, crossed_le P c, sum_by-cons length c cs)
fewer_so_far P (c ∷ cs) (suc k) d lt =
    let inside : k < length cs = omega (arith, lt) in
    let later = fewer_so_far P cs k d inside in
    omega (arith, later, crossed_le P c, sum_by-cons length c cs, sum_by-cons length (crossed_out P c) (map (crossed_out P) (take k cs)))
