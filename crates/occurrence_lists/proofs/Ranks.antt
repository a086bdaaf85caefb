-- The ranks of the literals of a clause.
use Rattle.std.proofs.Common.{◌≡◌, ℕ, zero, suc, ◌+◌, ◌*◌, ◌<◌, ◌≤◌, ◌∙◌, Bool, true, false, ◌||◌, ◌==◌, List, [], ◌∷◌, length, take, get_or, refl, sym, ap, subst, arith, inl, inr, ℤ, pos, negsuc}
use Rattle.std.specs.Prelude.{filter}
use Rattle.std.specs.List.{list_all}
use Rattle.std.specs.Ordering.{int_eq}
use Rattle.std.proofs.lemmas.Bool.{eqb-true, eq-eqb, false_from_ne_true}
use Rattle.std.proofs.lemmas.Bool.Decides.{Decides-int_eq}
use Rattle.std.proofs.lemmas.List.{take_more}
use Rattle.std.proofs.lemmas.List.Folds.{list_any-append}
use Rattle.lk_model.specs.Lists.{up_to}
use Rattle.lk_model.specs.Formulas.Literal.{contains, rank_of, is_literal, is_distinct}
use Rattle.lk_model.specs.Formulas.Formula.{Cnf, clause_at, positions_of, is_formula}
use Rattle.lk_model.proofs.Booleans.{and_true, or_true, or_left, or_right, same_tests}
use Rattle.lk_model.proofs.Ranks.{literal_bounds, rank_apart, rank_small}
use Rattle.lk_model.proofs.Clauses.{literals_of}
use Rattle.lk_model.proofs.Literals.{new_at}
use Rattle.occurrence_lists.specs.Occurrences.{has_rank, ranked}
use Rattle.occurrence_lists.proofs.FirstPositions.{filter-none}

same_rank : (l k : ℤ) → (rank_of l == rank_of k) ≡ int_eq k l
same_rank l k = same_tests (rank_of l == rank_of k) (int_eq k l)
    (λ e. (Decides-int_eq k l).1 (rank_apart k l (sym (eqb-true (rank_of l) (rank_of k) e))))
    (λ e. eq-eqb (rank_of l) (rank_of k) (ap rank_of (sym ((Decides-int_eq k l).0 e))))

-- a clause has the rank of a literal where it has the literal
pub has_rank_of : (c : List ℤ) (l : ℤ) → has_rank c (rank_of l) ≡ contains c l
has_rank_of [] l = refl
has_rank_of (x ∷ c) l = λ i. same_rank x l i || has_rank_of c l i

pub ranked_is : (F : Cnf) (l : ℤ) → ranked F (length F.clauses) (rank_of l) ≡ filter (λ p. contains (clause_at F p) l) (positions_of F)
ranked_is F l = λ i. filter (λ p. has_rank_of (clause_at F p) l i) (positions_of F)

-- a rank beyond the literals
pub beyond : (n : ℕ) (c : List ℤ) (k : ℕ) → list_all (is_literal n) c ≡ true → has_rank c k ≡ true → k < 2 * n + 2
beyond n [] k h r = absurd (let f : ⊥ = cc r in f)
beyond n (l ∷ c) k h r =
    let both = and_true (is_literal n l) (list_all (is_literal n) c) h in
    elim (or_true (rank_of l == k) (has_rank c k) r) [
      | inl e ↦ subst (λ (m : ℕ). m < 2 * n + 2) (eqb-true (rank_of l) k e) (rank_small n l both.0)
      | inr e ↦ beyond n c k both.1 e
    ]

-- no literal has a rank below 2
above_one : (n : ℕ) (l : ℤ) → is_literal n l ≡ true → 2 ≤ rank_of l
above_one n (pos v) h = let low = (literal_bounds n (pos v) h).0 in omega (arith, low)
above_one n (negsuc v) h = let low = (literal_bounds n (negsuc v) h).0 in omega (arith, low)

below : (n : ℕ) (c : List ℤ) (k : ℕ) → list_all (is_literal n) c ≡ true → k < 2 → has_rank c k ≡ false
below n [] k h lt = refl
below n (l ∷ c) k h lt =
    let both = and_true (is_literal n l) (list_all (is_literal n) c) h in
    let other = false_from_ne_true (rank_of l == k) (λ e. let same = eqb-true (rank_of l) k e in omega (arith, same, lt, above_one n l both.0)) in
    ap (λ (b : Bool). b || has_rank c k) other ∙ below n c k both.1 lt

pub none_ranked : (F : Cnf) (m k : ℕ) → is_formula F ≡ true → k < 2 → ranked F m k ≡ []
none_ranked F m k h lt = filter-none (λ p. has_rank (clause_at F p) k) (up_to m) (λ p. below F.vars (clause_at F p) k (literals_of F p h) lt)

-- the rank of one literal more
pub one_more : (c : List ℤ) (i : ℕ) (l : ℤ) (k : ℕ) → i < length c → l ≡ get_or c i l → has_rank (take (i + 1) c) k ≡ (has_rank (take i c) k || (rank_of l == k))
one_more c i l k lt at =
    ap (λ (ls : List ℤ). has_rank ls k) (take_more c i l lt)
    ∙ list_any-append (λ m. rank_of m == k) (take i c) (get_or c i l ∷ [])
    ∙ ap (λ (m : ℤ). has_rank (take i c) k || ((rank_of m == k) || false)) (sym at)
    ∙ ap (λ (b : Bool). has_rank (take i c) k || b) (or_none (rank_of l == k))
  where
    or_none : (b : Bool) → (b || false) ≡ b
    or_none true = refl
    or_none false = refl

-- which is a new one
pub new_rank : (c : List ℤ) (i : ℕ) (l : ℤ) → is_distinct c ≡ true → i < length c → l ≡ get_or c i l → has_rank (take i c) (rank_of l) ≡ false
new_rank c i l h lt at = has_rank_of (take i c) l ∙ ap (contains (take i c)) at ∙ new_at c i l h lt

-- and stands in the clause
pub rank_held : (c : List ℤ) (i : ℕ) (l : ℤ) → i < length c → l ≡ get_or c i l → has_rank c (rank_of l) ≡ true
rank_held [] i l lt at = absurd (omega (arith, lt))
rank_held (x ∷ c) zero l lt at = or_left (rank_of x == rank_of l) (has_rank c (rank_of l)) (eq-eqb (rank_of x) (rank_of l) (ap rank_of (sym at)))
rank_held (x ∷ c) (suc i) l lt at = or_right (rank_of x == rank_of l) (has_rank c (rank_of l)) (rank_held c i l (omega (arith, lt)) at)
