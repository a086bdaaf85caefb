-- The starting rows as the code makes them: their sizes, and their small numbers.
use Rattle.std.proofs.Common.{◌≡◌, ℕ, suc, ◌+◌, ◌≤◌, Bool, true, false, cond, List, [], ◌∷◌, ◌++◌, map, zip, replicate, length, ℤ, pos, negsuc, neg_ℤ, ◌==◌, ◌+ℤ◌, ◌-ℤ◌, ◌*ℤ◌, int_lt, unsigned_abs, sym, ap, ◌∙◌, subst, arith}
use Rattle.std.proofs.lemmas.Int.{ints}
use Rattle.std.proofs.lemmas.List.Elements.{All-append, All-cons, All-nil}
use Rattle.std.proofs.lemmas.List.{length-append, length-map}
use Rattle.std.proofs.lemmas.List.FromFn.{length-range_with_len}
use Rattle.std.specs.List.{All}
use Rattle.lk_model.specs.Lists.{up_to, sum_of}
use Rattle.lk_model.specs.Formulas.Literal.{contains, complement}
use Rattle.lk_model.specs.Formulas.Balance.{incidence}
use Rattle.lk_model.specs.Formulas.Formula.{Cnf, clause_at, variables_at, variables_to, variable_occurs}
use Rattle.lk_model.specs.Linear.Rows.{Row, lack, sign_of, start_row, start_rows, start_cost, less_column, start_of}
use Rattle.lk_model.proofs.Lists.{filter_length}
use Rattle.exact_pivot.specs.Reached.{AtStart}
use Rattle.exact_pivot.specs.Shape.{IsTableau}
use Rattle.exact_pivot.proofs.Shapes.{tableau_of}
use Rattle.exact_pivot.proofs.Starts.{zip_length}
use Rattle.exact_pivot.specs.Small.{AreSmall, cost_of}

pub variables_few : (F : Cnf) (S : List ℕ) → length (variables_at F S) ≤ F.vars
variables_few F S = omega (arith, filter_length (variable_occurs F S) (variables_to F.vars), length-range_with_len 1 F.vars)

pub unit_most : (b d : Bool) → unsigned_abs (cond b (pos 1) (pos 0) -ℤ cond d (pos 1) (pos 0)) ≤ 1
unit_most true true = omega arith
unit_most true false = omega arith
unit_most false true = omega arith
unit_most false false = omega arith

signed_most : (b : Bool) (x : ℤ) (n : ℕ) → unsigned_abs x ≤ n → unsigned_abs (cond b (negsuc 0) (pos 1) *ℤ x) ≤ n
signed_most true x n h = omega (arith, ints, h)
signed_most false x n h = omega (arith, ints, h)

sum_most : (f : ℕ → ℤ) (ps : List ℕ) → ((p : ℕ) → unsigned_abs (f p) ≤ 1) → unsigned_abs (sum_of (map f ps)) ≤ length ps
sum_most f [] h = omega arith
sum_most f (p ∷ ps) h = added (f p) (sum_of (map f ps)) (length ps) (h p) (sum_most f ps h)
  where
    added : (x y : ℤ) (n : ℕ) → unsigned_abs x ≤ 1 → unsigned_abs y ≤ n → unsigned_abs (x +ℤ y) ≤ suc n
    added x y n g k = omega (arith, ints, g, k)

all_map : {X : Type 0} (P : ℤ → Type 0) (f : X → ℤ) (xs : List X) → ((x : X) → P (f x)) → All P (map f xs)
all_map P f [] h = All-nil P
all_map P f (x ∷ xs) h = All-cons P (f x) (map f xs) (h x) (all_map P f xs h)

pub small_row : (F : Cnf) (S : List ℕ) (j v : ℕ) → length S ≤ 4_000_000 → AreSmall (start_row F S (j, v)).entries
unfolding start_row
small_row F S j v few =
    let small : ℤ → Type 0 = λ x. unsigned_abs x ≤ 4_000_000 in
    let clauses = all_map small (λ p. sign_of F S v *ℤ incidence (clause_at F p) v) S
    (λ p. (let m = signed_most (int_lt (lack F S v) (pos 0)) (incidence (clause_at F p) v) 1 (unit_most (contains (clause_at F p) (pos v)) (contains (clause_at F p) (complement (pos v)))) in omega (arith, m))) in
    let units = all_map small (λ w. cond (w == v) (pos 1) (pos 0)) (variables_at F S) (λ w. unit (w == v)) in
    let right = signed_most (int_lt (lack F S v) (pos 0)) (lack F S v) 4_000_000 (opposite _ (sum_most (λ p. incidence (clause_at F p) v) S (λ p. unit_most (contains (clause_at F p) (pos v)) (contains (clause_at F p) (complement (pos v)))))) in
    All-append small _ _ (All-append small _ _ clauses units) (All-cons small (pos 0) ((sign_of F S v *ℤ lack F S v) ∷ []) (omega arith) (All-cons small (sign_of F S v *ℤ lack F S v) [] right (All-nil small)))
  where
    unit : (b : Bool) → unsigned_abs (cond b (pos 1) (pos 0)) ≤ 4_000_000
    unit true = omega arith
    unit false = omega arith

    opposite : (x : ℤ) → unsigned_abs x ≤ length S → unsigned_abs (neg_ℤ x) ≤ 4_000_000
    opposite x h = omega (arith, ints, h, few)

pub small_rows : (F : Cnf) (S : List ℕ) → length S ≤ 4_000_000 → All (λ (row : Row). AreSmall row.entries) (start_rows F S)
small_rows F S few = along (zip (up_to (length (variables_at F S))) (variables_at F S))
  where
    along : (jvs : List (ℕ × ℕ)) → All (λ (row : Row). AreSmall row.entries) (map (start_row F S) jvs)
    along [] = All-nil (λ (row : Row). AreSmall row.entries)
    along (jv ∷ jvs) = All-cons (λ (row : Row). AreSmall row.entries) (start_row F S jv) (map (start_row F S) jvs) (small_row F S jv.0 jv.1 few) (along jvs)

-- the cost row of the starting rows
pub cost_is_start : (F : Cnf) (S : List ℕ) → cost_of (length S) (start_rows F S) ≡ start_cost F S
unfolding start_cost
cost_is_start F S = ap (λ n. map (less_column (start_rows F S)) (up_to (length S)) ++ replicate n (pos 0) ++ pos 1 ∷ less_column (start_rows F S) (length S + n + 2) ∷ []) (zip_length (start_row F S) (variables_at F S) 1)

-- what a tableau is at the start
pub begun : (F : Cnf) (S positions vars : List ℕ) (signs : List ℤ) (rows : List Row) (cost : List ℤ) → positions ≡ S → vars ≡ variables_at F S → signs ≡ map (sign_of F S) vars
    → rows ≡ start_rows F S → cost ≡ cost_of (length S) rows → record { positions = positions; vars = vars; signs = signs; rows = rows; cost = cost } ≡ start_of F S
unfolding start_of
begun F S positions vars signs rows cost e f g h k = λ i. record {
  positions = e i;
  vars = f i;
  signs = (g ∙ ap (map (sign_of F S)) f) i;
  rows = h i;
  cost = (k ∙ ap (cost_of (length S)) h ∙ cost_is_start F S) i;
}

pub begun_keeps : (F : Cnf) (S : List ℕ) → length S ≤ 4_000_000 → F.vars ≤ 1_000_000 → IsTableau (start_of F S)
unfolding start_of
begun_keeps F S few most = tableau_of F S (start_of F S) (omega (arith, few, most, variables_few F S)) AtStart

pub rows_count : (F : Cnf) (S : List ℕ) → length (start_rows F S) ≡ length (variables_at F S)
rows_count F S = zip_length (start_row F S) (variables_at F S) 1

-- how many columns they have
pub row_width : (F : Cnf) (S : List ℕ) (j v : ℕ) → length (start_row F S (j, v)).entries ≡ length S + length (variables_at F S) + 2
unfolding start_row
row_width F S j v =
    let clauses = map (λ p. sign_of F S v *ℤ incidence (clause_at F p) v) S in
    let units = map (λ w. cond (w == v) (pos 1) (pos 0)) (variables_at F S) in
    omega (
      arith,
      length-append (clauses ++ units) (pos 0 ∷ (sign_of F S v *ℤ lack F S v) ∷ []),
      length-append clauses units,
      length-map S (λ p. sign_of F S v *ℤ incidence (clause_at F p) v),
      length-map (variables_at F S) (λ w. cond (w == v) (pos 1) (pos 0)),
    )

pub row_widths : (F : Cnf) (S : List ℕ) → All (λ (row : Row). length row.entries ≡ length S + length (start_rows F S) + 2) (start_rows F S)
row_widths F S = subst (λ (n : ℕ). All (λ (row : Row). length row.entries ≡ length S + n + 2) (start_rows F S)) (sym (rows_count F S)) (along (zip (up_to (length (variables_at F S))) (variables_at F S)))
  where
    wide : Row → Type 0
    wide row = length row.entries ≡ length S + length (variables_at F S) + 2

    along : (jvs : List (ℕ × ℕ)) → All wide (map (start_row F S) jvs)
    along [] = All-nil wide
    along (jv ∷ jvs) = All-cons wide (start_row F S jv) (map (start_row F S) jvs) (row_width F S jv.0 jv.1) (along jvs)
