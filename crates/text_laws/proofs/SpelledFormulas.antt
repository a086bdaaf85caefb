-- What a text spells is a formula over its variables.
use Rattle.std.proofs.Common.{◌≡◌, ℕ, zero, suc, Bool, true, false, cond, not, ◌&&◌, nat_le, List, [], ◌∷◌, map, filter, refl, sym, subst, arith, ℤ, pos, negsuc}
use Rattle.std.specs.List.{slice_split, list_all, onto_first}
use Rattle.std.specs.Ordering.{int_eq}
use Rattle.std.proofs.lemmas.Bool.{and_from, le-leb}
use Rattle.lk_model.specs.Lists.{is_zero}
use Rattle.lk_model.specs.Formulas.Literal.{variable, is_literal, is_clause}
use Rattle.lk_model.specs.Texts.Dimacs.{without_empty_last, runs_of, without_repeats}
use Rattle.lk_model.proofs.Booleans.{and_true}
use Rattle.lk_model.proofs.Literals.{once_distinct}
use Rattle.text_laws.specs.SpellsLaw.{FormulaLaw}

-- RUNS

-- a number that is no 0 has a variable
from_one : (x : ℤ) → is_zero x ≡ false → nat_le 1 (variable x) ≡ true
from_one (pos zero) e = absurd (let f : ⊥ = cc e in f)
from_one (pos (suc n)) e = le-leb 1 (suc n) (omega arith)
from_one (negsuc n) e = le-leb 1 (suc n) (omega arith)

-- a literal in front of the first run
onto_literals : (n : ℕ) (x : ℤ) (parts : List (List ℤ)) → is_literal n x ≡ true → list_all (list_all (is_literal n)) parts ≡ true → list_all (list_all (is_literal n)) (onto_first x parts) ≡ true
onto_literals n x [] here h = and_from (is_literal n x && true) true (and_from (is_literal n x) true here refl) refl
onto_literals n x (part ∷ parts) here h =
    let both = and_true (list_all (is_literal n) part) (list_all (list_all (is_literal n)) parts) h in
    and_from (is_literal n x && list_all (is_literal n) part) _ (and_from (is_literal n x) _ here both.0) both.1

-- the numbers between zeros are literals
split_literals : (n : ℕ) (xs : List ℤ) → list_all (λ l. nat_le (variable l) n) xs ≡ true → list_all (list_all (is_literal n)) (slice_split is_zero xs) ≡ true
split_literals n [] h = refl
split_literals n (x ∷ xs) h =
    let both = and_true (nat_le (variable x) n) (list_all (λ l. nat_le (variable l) n) xs) h in
    by (is_zero x) refl both.0 (split_literals n xs both.1)
  where
    by : (b : Bool) → is_zero x ≡ b → nat_le (variable x) n ≡ true → list_all (list_all (is_literal n)) (slice_split is_zero xs) ≡ true
        → list_all (list_all (is_literal n)) (cond b ([] ∷ slice_split is_zero xs) (onto_first x (slice_split is_zero xs))) ≡ true
    by true e small rest = rest
    by false e small rest = onto_literals n x (slice_split is_zero xs) (and_from (nat_le 1 (variable x)) (nat_le (variable x) n) (from_one x e) small) rest

last_literals : (n : ℕ) (parts : List (List ℤ)) → list_all (list_all (is_literal n)) parts ≡ true → list_all (list_all (is_literal n)) (without_empty_last parts) ≡ true
last_literals n [] h = refl
last_literals n ([] ∷ []) h = refl
last_literals n ([] ∷ part ∷ parts) h = last_literals n (part ∷ parts) h
last_literals n ((x ∷ xs) ∷ parts) h =
    let both = and_true (list_all (is_literal n) (x ∷ xs)) (list_all (list_all (is_literal n)) parts) h in
    and_from (list_all (is_literal n) (x ∷ xs)) _ both.0 (last_literals n parts both.1)

-- REPEATS

filter_literals : (n : ℕ) (t : ℤ → Bool) (c : List ℤ) → list_all (is_literal n) c ≡ true → list_all (is_literal n) (filter t c) ≡ true
filter_literals n t [] h = refl
filter_literals n t (l ∷ c) h =
    let both = and_true (is_literal n l) (list_all (is_literal n) c) h in
    by (t l) both.0 (filter_literals n t c both.1)
  where
    by : (b : Bool) → is_literal n l ≡ true → list_all (is_literal n) (filter t c) ≡ true → list_all (is_literal n) (cond b (l ∷ filter t c) (filter t c)) ≡ true
    by true here rest = and_from (is_literal n l) _ here rest
    by false here rest = rest

once_literals : (n : ℕ) (c : List ℤ) → list_all (is_literal n) c ≡ true → list_all (is_literal n) (without_repeats c) ≡ true
once_literals n [] h = refl
once_literals n (l ∷ c) h =
    let both = and_true (is_literal n l) (list_all (is_literal n) c) h in
    and_from (is_literal n l) _ both.0 (filter_literals n (λ k. not (int_eq l k)) (without_repeats c) (once_literals n c both.1))

once_clauses : (n : ℕ) (runs : List (List ℤ)) → list_all (list_all (is_literal n)) runs ≡ true → list_all (is_clause n) (map without_repeats runs) ≡ true
once_clauses n [] h = refl
once_clauses n (c ∷ runs) h =
    let both = and_true (list_all (is_literal n) c) (list_all (list_all (is_literal n)) runs) h in
    and_from (is_clause n (without_repeats c)) _ (and_from (list_all (is_literal n) (without_repeats c)) _ (once_literals n c both.0) (once_distinct c)) (once_clauses n runs both.1)

-- ALL CLAUSES

pub spelled_form : FormulaLaw
spelled_form text F s =
    subst (λ (clauses : List (List ℤ)). list_all (is_clause F.vars) clauses ≡ true) (sym s.clauses)
    (once_clauses F.vars (runs_of s.numbers) (last_literals F.vars (slice_split is_zero s.numbers) (split_literals F.vars s.numbers s.variables)))
