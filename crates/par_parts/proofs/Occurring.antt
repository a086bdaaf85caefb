-- The positions that mention a variable are those of its two literals.
use Rattle.std.proofs.Common.{◌≡◌, ℕ, zero, suc, ◌+◌, ◌*◌, ◌<◌, ◌≤◌, ◌==◌, ◌∙◌, ◌++◌, [], ◌∷◌, true, List, ℤ, pos, negsuc, nat_le, nat_lt, get_or, length, refl, sym, ap, subst, arith, inl, inr}
use Rattle.std.specs.List.{list_all}
use Rattle.std.specs.Prelude.{filter}
use Rattle.std.proofs.lemmas.Bool.{and_from, eqb-true, leb-true, lt-ltb, cases_lt}
use Rattle.std.proofs.lemmas.List.{get_or_past}
use Rattle.std.proofs.lemmas.List.Folds.{list_any-append}
use Rattle.lk_model.specs.Lists.{among}
use Rattle.lk_model.specs.Formulas.Literal.{variable, contains, mentions, rank_of, is_clause, is_literal}
use Rattle.lk_model.specs.Formulas.Formula.{Cnf, clause_at, is_formula, positions_of}
use Rattle.lk_model.proofs.Booleans.{and_true, or_true, or_left, or_right}
use Rattle.lk_model.proofs.Counting.{in_filter, from_filter, among-range}
use Rattle.lk_model.proofs.Ranks.{literal_between}
use Rattle.lk_model.proofs.Variables.{literal_passing, variable_bound}
use Rattle.kernel_laws.proofs.Clauses.{mentions_of}
use Rattle.occurrence_lists.specs.Occurrences.{AreOccurrences}
use Rattle.par_parts.specs.Positions.{HavePositions, positions_of_variable}
use Rattle.par_parts.proofs.Labelling.{position_bounds}

-- the variables of a clause over n variables are below n + 1
all_small : (n m : ℕ) (d : List ℤ) → m ≡ n + 1 → list_all (is_literal n) d ≡ true → list_all (λ k. nat_lt (variable k) m) d ≡ true
all_small n m [] e a = refl
all_small n m (l ∷ d) e a =
    let w = and_true (is_literal n l) (list_all (is_literal n) d) a in
    let b = and_true (nat_le 1 (variable l)) (nat_le (variable l) n) w.0 in
    let le = leb-true (variable l) n b.1 in
    let first : nat_lt (variable l) m ≡ true = lt-ltb (variable l) m (omega (arith, le, e)) in
    and_from (nat_lt (variable l) m) _ first (all_small n m d e w.1)

-- so are those of a clause of a formula
pub clause_small : (n m : ℕ) (c : List ℤ) → m ≡ n + 1 → is_clause n c ≡ true → list_all (λ k. nat_lt (variable k) m) c ≡ true
clause_small n m c e h = all_small n m c e (and_true (list_all (is_literal n) c) _ h).0

-- a position of a literal is one of its variable
of_literal : (lists : List (List ℕ)) (l : ℤ) (p : ℕ) → among (get_or lists (rank_of l) []) p ≡ true → among (positions_of_variable lists (variable l)) p ≡ true
of_literal lists (pos v) p i =
    list_any-append (λ q. q == p) (get_or lists (2 * v) []) (get_or lists (2 * v + 1) [])
    ∙ or_left (among (get_or lists (2 * v) []) p) (among (get_or lists (2 * v + 1) []) p) i
of_literal lists (negsuc k) p i =
    list_any-append (λ q. q == p) (get_or lists (2 * suc k) []) (get_or lists (2 * suc k + 1) [])
    ∙ or_right (among (get_or lists (2 * suc k) []) p) (among (get_or lists (2 * suc k + 1) []) p) i

-- what stands in the list of a literal mentions its variable
from_literal : (F : Cnf) (lists : List (List ℕ)) (l : ℤ) (p : ℕ) → AreOccurrences F lists → 0 < variable l → among (get_or lists (rank_of l) []) p ≡ true
    → mentions (clause_at F p) (variable l) ≡ true
from_literal F lists l p a some i = elim (cases_lt F.vars (variable l)) [
  | inl past ↦ absurd (nowhere l past i)
  | inr within ↦ mentions_of (clause_at F p) l (from_filter (λ q. contains (clause_at F q) l) (positions_of F) p
      (subst (λ (ps : List ℕ). among ps p ≡ true) (a.held l (literal_between F.vars l some (omega (arith, within)))) i)).0
]
  where
    empty : (k : ℕ) → 2 * F.vars + 2 ≤ k → among (get_or lists k []) p ≡ true → ⊥
    empty k past i =
        let nothing = get_or_past lists k [] (let s = a.size in omega (arith, s, past)) in
        let none : among [] p ≡ true = subst (λ (ps : List ℕ). among ps p ≡ true) nothing i in
        cc none

    nowhere : (l : ℤ) → F.vars < variable l → among (get_or lists (rank_of l) []) p ≡ true → ⊥
    nowhere (pos v) past i = empty (2 * v) (omega (arith, past)) i
    nowhere (negsuc k) past i = empty (2 * suc k + 1) (omega (arith, past)) i

only : (F : Cnf) (lists : List (List ℕ)) (v p : ℕ) → AreOccurrences F lists → among (positions_of_variable lists v) p ≡ true → mentions (clause_at F p) v ≡ true
only F lists zero p a i =
    let none : among [] p ≡ true = subst (λ (ps : List ℕ). among ps p ≡ true) (ap (λ (ps : List ℕ). ps ++ get_or lists 1 []) (a.none 0 (omega arith)) ∙ a.none 1 (omega arith)) i in
    absurd (let f : ⊥ = cc none in f)
only F lists (suc k) p a i =
    elim (or_true (among (get_or lists (2 * suc k) []) p) (among (get_or lists (2 * suc k + 1) []) p)
    (sym (list_any-append (λ q. q == p) (get_or lists (2 * suc k) []) (get_or lists (2 * suc k + 1) [])) ∙ i)) [
      | inl itself ↦ from_literal F lists (pos (suc k)) p a (omega arith) itself
      | inr other ↦ from_literal F lists (negsuc k) p a (omega arith) other
    ]

pub have_positions : (F : Cnf) (lists : List (List ℕ)) → is_formula F ≡ true → AreOccurrences F lists → HavePositions F lists
have_positions F lists f a = record {
  long = a.size;
  told = λ v p m.
      let w = literal_passing (λ l. variable l == v) (clause_at F p) m in
      let e = eqb-true (variable w.0) v w.2 in
      let b = variable_bound F p v f m in
      let literal = literal_between F.vars w.0 (omega (arith, b, e)) (omega (arith, b, e)) in
      let at = position_bounds F p v m in
      let listed : among (filter (λ q. contains (clause_at F q) w.0) (positions_of F)) p ≡ true =
      in_filter (λ q. contains (clause_at F q) w.0) (positions_of F) p w.1 (among-range 1 (length F.clauses) p (omega (arith, at)) (omega (arith, at))) in
      subst (λ (n : ℕ). among (positions_of_variable lists n) p ≡ true) e
      (of_literal lists w.0 p (subst (λ (ps : List ℕ). among ps p ≡ true) (sym (a.held w.0 literal)) listed));
  only = λ v p i. only F lists v p a i;
}
