-- Clauses under numbers of their own, and told by names again.
use Rattle.std.proofs.Common.{◌≡◌, get_or, take, ℕ, ◌+◌, ◌<◌, ◌≤◌, true, false, not, List, [], ◌∷◌, ◌++◌, map, refl, sym, ◌∙◌, ap, subst, arith, length, ℤ, inl, inr, ◌==◌}
use Rattle.std.specs.List.{list_all}
use Rattle.std.specs.Prelude.{sum_by}
use Rattle.std.proofs.lemmas.Bool.{and_from, eq-eqb, both_ways, false_from_ne_true}
use Rattle.std.proofs.lemmas.List.{length-map, map-append, take_all}
use Rattle.std.proofs.lemmas.List.Sums.{sum_by-cons}
use Rattle.std.specs.Ordering.{int_eq}
use Rattle.lk_model.specs.Lists.{among}
use Rattle.lk_model.specs.Formulas.Literal.{variable, is_literal, contains, is_distinct, is_clause, mentions}
use Rattle.lk_model.specs.Formulas.Formula.{Cnf, is_formula, clause_at, clauses_at, with_clause, literal_count}
use Rattle.lk_model.specs.Formulas.Lean.{are_positions}
use Rattle.lk_model.proofs.Clauses.{form_at}
use Rattle.lk_model.proofs.ClausesAt.{clauses_more, few_clauses, few_literals}
use Rattle.lk_model.proofs.Booleans.{and_true, or_true, or_left, or_right}
use Rattle.lk_model.proofs.Literals.{same_int, int_self}
use Rattle.lk_model.proofs.Variables.{occurs}
use Rattle.general_laws.specs.Found.{has_only}
use Rattle.renaming_laws.specs.Renaming.{IsDense, named}
use Rattle.dense_copy.specs.Names.{AreNames}

-- ONE CLAUSE

-- what stands in a clause stands in it under other names
contains_named : (f : ℤ → ℤ) (c : List ℤ) (l : ℤ) → contains c l ≡ true → contains (map f c) (f l) ≡ true
contains_named f [] l e = absurd (let g : ⊥ = cc in g)
contains_named f (k ∷ c) l e = elim (or_true (int_eq l k) (contains c l) e) [
  | inl here ↦ or_left (int_eq (f l) (f k)) (contains (map f c) (f l)) (subst (λ (z : ℤ). int_eq (f l) (f z) ≡ true) (same_int l k here) (int_self (f l)))
  | inr later ↦ or_right (int_eq (f l) (f k)) (contains (map f c) (f l)) (contains_named f c l later)
]

-- so a clause has no literal twice where it has none under other names
distinct_named : (f : ℤ → ℤ) (c : List ℤ) → is_distinct (map f c) ≡ true → is_distinct c ≡ true
distinct_named f [] e = refl
distinct_named f (l ∷ c) e =
    let both = and_true (not (contains (map f c) (f l))) (is_distinct (map f c)) e in
    let out : contains c l ≡ false = false_from_ne_true _ (λ there. both_ways (not (contains (map f c) (f l))) (ap not (contains_named f c l there)) both.0) in
    and_from (not (contains c l)) (is_distinct c) (ap not out) (distinct_named f c both.1)

-- ALL CLAUSES SO FAR

-- a formula with the clauses at the first positions of the part
pub record IsCopied (F : Cnf) (part names : List ℕ) (i : ℕ) (G : Cnf) : Type 0 where
  pub vars : G.vars ≡ length names
  pub formula : is_formula G ≡ true
  pub clauses : map (map (named names)) G.clauses ≡ (clauses_at F (take i part)).clauses

-- a clause for the next position
pub record IsNext (F : Cnf) (names : List ℕ) (p : ℕ) (c : List ℤ) : Type 0 where
  pub literals : list_all (is_literal (length names)) c ≡ true
  pub clause : map (named names) c ≡ clause_at F p

pub next_clause : (F : Cnf) (part names : List ℕ) (i : ℕ) (G : Cnf) (p : ℕ) (c : List ℤ) → is_formula F ≡ true → IsCopied F part names i G → IsNext F names p c
    → is_clause G.vars c ≡ true
next_clause F part names i G p c formula copied next =
    let distinct = (and_true (list_all (is_literal F.vars) (clause_at F p)) (is_distinct (clause_at F p)) (form_at F p formula)).1 in
    let again = subst (λ (d : List ℤ). is_distinct d ≡ true) (sym next.clause) distinct in
    subst (λ (n : ℕ). is_clause n c ≡ true) (sym copied.vars) (and_from _ _ next.literals (distinct_named (named names) c again))

formula_more : (n : ℕ) (cs : List (List ℤ)) (c : List ℤ) → list_all (is_clause n) cs ≡ true → is_clause n c ≡ true → list_all (is_clause n) (cs ++ c ∷ []) ≡ true
formula_more n [] c all e = and_from _ _ e refl
formula_more n (d ∷ cs) c all e =
    let both = and_true (is_clause n d) (list_all (is_clause n) cs) all in
    and_from (is_clause n d) _ both.0 (formula_more n cs c both.1 e)

pub copied_more : (F : Cnf) (part names : List ℕ) (i : ℕ) (G : Cnf) (c : List ℤ) → is_formula F ≡ true → i < length part → IsCopied F part names i G
    → IsNext F names (get_or part i 0) c → IsCopied F part names (i + 1) (with_clause G c)
copied_more F part names i G c formula lt copied next = record {
  vars = copied.vars;
  formula = formula_more G.vars G.clauses c copied.formula (next_clause F part names i G (get_or part i 0) c formula copied next);
  clauses = map-append (map (named names)) G.clauses (c ∷ [])
      ∙ (λ j. copied.clauses j ++ next.clause j ∷ [])
      ∙ ap (λ (H : Cnf). H.clauses) (clauses_more F part i lt);
}

-- there is room for one clause more
pub few_copied : (F : Cnf) (part names : List ℕ) (i : ℕ) (G : Cnf) → are_positions F part ≡ true → i < length part → IsCopied F part names i G → length G.clauses < length F.clauses
few_copied F part names i G positions lt copied =
    let same = length-map {B = List ℤ} G.clauses (map (named names)) in
    let count = ap (λ (cs : List (List ℤ)). length cs) copied.clauses in
    let few = few_clauses F part i positions lt in
    omega (arith, same, count, few)

same_count : (f : ℤ → ℤ) (cs : List (List ℤ)) → sum_by length (map (map f) cs) ≡ sum_by length cs
same_count f [] = refl
same_count f (c ∷ cs) =
    let here = length-map {B = ℤ} c f in
    let more = same_count f cs in
    let left = sum_by-cons length (map f c) (map (map f) cs) in
    let right = sum_by-cons length c cs in
    omega (arith, here, more, left, right)

pub few_literals_copied : (F : Cnf) (part names : List ℕ) (i : ℕ) (G : Cnf) (c : List ℤ) → are_positions F part ≡ true → i < length part
    → IsCopied F part names i G → IsNext F names (get_or part i 0) c → literal_count G + length c ≤ literal_count F
few_literals_copied F part names i G c positions lt copied next =
    let same = same_count (named names) G.clauses in
    let count = ap (λ (cs : List (List ℤ)). sum_by length cs) copied.clauses in
    let here = length-map {B = ℤ} c (named names) in
    let long = ap (λ (ls : List ℤ). length ls) next.clause in
    let few = few_literals F part i positions lt in
    omega (arith, same, count, here, long, few)

-- all clauses
pub dense : (F : Cnf) (part names : List ℕ) (i : ℕ) (G : Cnf) → length part ≤ i → AreNames F part names → IsCopied F part names i G → IsDense F part names G
dense F part names i G all are copied = record {
  ascend = are.ascend;
  vars = copied.vars;
  formula = copied.formula;
  clauses = copied.clauses ∙ ap (λ (ps : List ℕ). (clauses_at F ps).clauses) (take_all i part all);
}

-- each variable of a clause of the part has a name
pub named_variables : (F : Cnf) (part names : List ℕ) (p : ℕ) → AreNames F part names → among part p ≡ true → has_only (among names) (clause_at F p) ≡ true
named_variables F part names p are there = every (clause_at F p) (λ v m. are.occur v ∙ occurs F part p v there m)
  where
    every : (c : List ℤ) → ((v : ℕ) → mentions c v ≡ true → among names v ≡ true) → has_only (among names) c ≡ true
    every [] h = refl
    every (l ∷ c) h =
        and_from _ _ (h (variable l) (or_left _ (mentions c (variable l)) (eq-eqb (variable l) (variable l) refl)))
        (every c (λ v m. h v (or_right (variable l == v) (mentions c v) m)))
