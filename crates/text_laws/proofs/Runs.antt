-- The numbers of clause lines: the literals of each clause, and a 0 after them.
use Rattle.std.proofs.Common.{◌≡◌, ℕ, zero, suc, ◌≤◌, ◌∙◌, Bool, true, false, cond, not, List, [], ◌∷◌, ◌++◌, length, map, filter, flat_map, All, refl, sym, ap, arith, append_assoc, ℤ, pos, count_by, sum_by, nat_le}
use Rattle.std.specs.List.{list_all}
use Rattle.std.specs.Ordering.{int_eq}
use Rattle.std.proofs.lemmas.Bool.{not-true, and_from, le-leb}
use Rattle.std.proofs.lemmas.List.Folds.{list_all-append}
use Rattle.std.proofs.lemmas.List.Sums.{sum_by-append, sum_by-cons, count_by-le-length}
use Rattle.std.proofs.lemmas.List.Splits.{slice_split_at}
use Rattle.lk_model.specs.Lists.{is_zero, is_nonzero}
use Rattle.lk_model.specs.Formulas.Literal.{variable, contains, is_literal, is_distinct, is_clause}
use Rattle.lk_model.specs.Texts.Dimacs.{without_empty_last, runs_of, without_repeats}
use Rattle.lk_model.proofs.Booleans.{and_true, or_false}
use Rattle.lk_model.proofs.ListTests.{all_weaker, real_literal as literal_nonzero}
use Rattle.lk_model.proofs.FaultLaws.{split_shape as has_part}

-- the numbers of the clause lines
abbrev pub numbers_in : List (List ℤ) → List ℤ
numbers_in clauses = flat_map (λ c. c ++ pos 0 ∷ []) clauses

-- RUNS

none_zero : (c : List ℤ) → list_all is_nonzero c ≡ true → All (λ x. is_zero x ≡ false) c
none_zero [] h k d lt = absurd (omega (arith, lt))
none_zero (x ∷ c) h zero d lt = not-true (is_zero x) (and_true _ _ h).0
none_zero (x ∷ c) h (suc k) d lt = none_zero c (and_true _ _ h).1 k d (omega (arith, lt))

-- a run before others stays
first_run : (c r : List ℤ) (rs : List (List ℤ)) → without_empty_last (c ∷ r ∷ rs) ≡ c ∷ without_empty_last (r ∷ rs)
first_run [] r rs = refl
first_run (x ∷ c) r rs = refl

run_ended : (c xs : List ℤ) → list_all is_nonzero c ≡ true → runs_of (c ++ pos 0 ∷ xs) ≡ c ∷ runs_of xs
run_ended c xs h =
    let s = has_part xs in
    ap without_empty_last (slice_split_at is_zero c (pos 0) xs (none_zero c h) refl)
    ∙ ap (λ (rs : List (List ℤ)). without_empty_last (c ∷ rs)) s.2
    ∙ first_run c s.0 s.1
    ∙ ap (λ (rs : List (List ℤ)). c ∷ without_empty_last rs) (sym s.2)

pub runs_in : (n : ℕ) (clauses : List (List ℤ)) → list_all (is_clause n) clauses ≡ true → runs_of (numbers_in clauses) ≡ clauses
runs_in n [] h = refl
runs_in n (c ∷ clauses) h =
    let p = and_true (is_clause n c) (list_all (is_clause n) clauses) h in
    let q = and_true (list_all (is_literal n) c) (is_distinct c) p.0 in
    ap runs_of (append_assoc c (pos 0 ∷ []) (numbers_in clauses))
    ∙ run_ended c (numbers_in clauses) (all_weaker (is_literal n) is_nonzero (literal_nonzero n) c q.0)
    ∙ ap (λ (cs : List (List ℤ)). c ∷ cs) (runs_in n clauses p.1)

-- REPEATS

-- a literal that stands nowhere is nowhere dropped
none_dropped : (l : ℤ) (c : List ℤ) → contains c l ≡ false → filter (λ k. not (int_eq l k)) c ≡ c
none_dropped l [] h = refl
none_dropped l (k ∷ c) h = let p = or_false (int_eq l k) (contains c l) h in rw p.0 (ap (λ (ks : List ℤ). k ∷ ks) (none_dropped l c p.1))

distinct_same : (c : List ℤ) → is_distinct c ≡ true → without_repeats c ≡ c
distinct_same [] h = refl
distinct_same (l ∷ c) h =
    let p = and_true (not (contains c l)) (is_distinct c) h in
    ap (λ (ks : List ℤ). l ∷ filter (λ k. not (int_eq l k)) ks) (distinct_same c p.1) ∙ ap (λ (ks : List ℤ). l ∷ ks) (none_dropped l c (not-true (contains c l) p.0))

pub clauses_same : (n : ℕ) (clauses : List (List ℤ)) → list_all (is_clause n) clauses ≡ true → map without_repeats clauses ≡ clauses
clauses_same n [] h = refl
clauses_same n (c ∷ clauses) h =
    let p = and_true (is_clause n c) (list_all (is_clause n) clauses) h in
    let first = distinct_same c (and_true (list_all (is_literal n) c) (is_distinct c) p.0).1 in
    let rest = clauses_same n clauses p.1 in
    λ i. first i ∷ rest i

-- LIMITS

pub variables_in : (n : ℕ) (clauses : List (List ℤ)) → list_all (is_clause n) clauses ≡ true → list_all (λ l. nat_le (variable l) n) (numbers_in clauses) ≡ true
variables_in n [] h = refl
variables_in n (c ∷ clauses) h =
    let small : ℤ → Bool = λ l. nat_le (variable l) n in
    let p = and_true (is_clause n c) (list_all (is_clause n) clauses) h in
    let q = and_true (list_all (is_literal n) c) (is_distinct c) p.0 in
    let here = all_weaker (is_literal n) small (λ l e. (and_true (nat_le 1 (variable l)) (nat_le (variable l) n) e).1) c q.0 in
    list_all-append small (c ++ pos 0 ∷ []) (numbers_in clauses)
    ∙ and_from (list_all small (c ++ pos 0 ∷ [])) (list_all small (numbers_in clauses))
    (list_all-append small c (pos 0 ∷ []) ∙ and_from (list_all small c) (list_all small (pos 0 ∷ [])) here (and_from (nat_le 0 n) true (le-leb 0 n (omega arith)) refl))
    (variables_in n clauses p.1)

-- the numbers that are no 0 are as many as literals
pub nonzero_count : (clauses : List (List ℤ)) → count_by is_nonzero (numbers_in clauses) ≤ sum_by length clauses
nonzero_count [] = omega arith
nonzero_count (c ∷ clauses) =
    let ones : ℤ → ℕ = λ x. cond (is_nonzero x) 1 0 in
    let whole = sum_by-append ones (c ++ pos 0 ∷ []) (numbers_in clauses) in
    let line = sum_by-append ones c (pos 0 ∷ []) in
    let none : sum_by ones (pos 0 ∷ []) ≡ 0 = refl in
    omega (arith, whole, line, none, count_by-le-length is_nonzero c, sum_by-cons length c clauses, nonzero_count clauses)
