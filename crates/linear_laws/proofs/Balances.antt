-- Balances of clauses and of variables, and their exchange.
use Rattle.std.proofs.Common.{◌≡◌, ◌≢◌, ℕ, zero, suc, Bool, true, false, cond, not, ◌||◌, nat_le, List, [], ◌∷◌, map, ℤ, pos, negsuc, neg_ℤ, ◌+ℤ◌, ◌-ℤ◌, ◌*ℤ◌, refl, sym, ap, ◌∙◌, arith}
use Rattle.std.specs.List.{list_any, list_all}
use Rattle.std.specs.Ordering.{int_eq}
use Rattle.std.proofs.lemmas.Int.{ints}
use Rattle.std.proofs.lemmas.Bool.{both_ways, and_from, not-true, leb-true}
use Rattle.std.proofs.lemmas.Bool.Decides.{Decides-int_eq}
use Rattle.std.proofs.Math.IntN.{*ℤ-zero}
use Rattle.lk_model.specs.Lists.{sum_of, is_nonzero}
use Rattle.lk_model.specs.Formulas.Literal.{variable, complement, contains, is_literal, is_distinct, is_clause}
use Rattle.lk_model.specs.Formulas.Formula.{Cnf, clause_at, is_formula, variables_to}
use Rattle.lk_model.specs.Formulas.Balance.{Weighting, balance, incidence, balance_in}
use Rattle.lk_model.proofs.Booleans.{and_true, or_false}
use Rattle.lk_model.proofs.Counting.{Differ-range}
use Rattle.lk_model.proofs.Variables.{in_variables}
use Rattle.lk_model.proofs.Flags.{same_false}
use Rattle.lk_model.proofs.Clauses.{form_at}
use Rattle.lk_model.proofs.Literals.{variable_complement}
use Rattle.lk_model.proofs.Products.{mul_add, mul_swap}
use Rattle.lk_model.proofs.ListTests.{zero_is}
use Rattle.kernel_laws.proofs.LinearAutarkies.{weight_of, balance_more}
use Rattle.linear_laws.proofs.Sums.{sum_same, sum_zero, sum_plus, sum_times, sum_exchange, sum_one}

-- INCIDENCES

-- 1 where a test holds, else 0
abbrev flag : Bool → ℤ
flag b = cond b (pos 1) (pos 0)

-- of two tests of which the first excludes the second
flag_or : (a b : Bool) → (a ≡ true → b ≡ false) → flag (a || b) ≡ flag (a || false) +ℤ flag b
flag_or true true n = absurd (both_ways true (n refl) refl)
flag_or true false n = refl
flag_or false b n = by_cases b
  where
    by_cases : (b : Bool) → flag b ≡ pos 0 +ℤ flag b
    by_cases true = refl
    by_cases false = refl

-- two sums, one less the other
joined : (a b c d e f : ℤ) → a ≡ b +ℤ c → d ≡ e +ℤ f → a -ℤ d ≡ b -ℤ e +ℤ (c -ℤ f)
joined a b c d e f g h = omega (arith, ints, g, h)

-- the incidence of a clause with one more literal
pub incidence_more : (l : ℤ) (c : List ℤ) (v : ℕ) → contains c l ≡ false → incidence (l ∷ c) v ≡ incidence (l ∷ []) v +ℤ incidence c v
incidence_more l c v out = joined
    (flag (int_eq (pos v) l || contains c (pos v))) (flag (int_eq (pos v) l || false)) (flag (contains c (pos v)))
    (flag (int_eq (complement (pos v)) l || contains c (complement (pos v)))) (flag (int_eq (complement (pos v)) l || false)) (flag (contains c (complement (pos v))))
    (flag_or (int_eq (pos v) l) (contains c (pos v)) (λ e. apart (pos v) e))
    (flag_or (int_eq (complement (pos v)) l) (contains c (complement (pos v))) (λ e. apart (complement (pos v)) e))
  where
    apart : (k : ℤ) → int_eq k l ≡ true → contains c k ≡ false
    apart k e = ap (contains c) ((Decides-int_eq k l).0 e) ∙ out

-- a clause of one literal has no incidence in another variable
pub incidence_other : (l : ℤ) (v : ℕ) → v ≢ variable l → incidence (l ∷ []) v ≡ pos 0
incidence_other l v n =
    let first : int_eq (pos v) l ≡ false = same_false (pos v) l (λ e. n (ap variable e)) in
    let second : int_eq (complement (pos v)) l ≡ false = same_false (complement (pos v)) l (λ e. n (sym (variable_complement (pos v)) ∙ ap variable e)) in
    rw (first, second) refl

-- WEIGHTS

-- a literal weighs its variable times its incidence there
weight_itself : (x : Weighting) (l : ℤ) → variable l ≢ 0 → x (variable l) *ℤ incidence (l ∷ []) (variable l) ≡ weight_of x l
weight_itself x (pos zero) n = absurd (n refl)
weight_itself x (pos (suc k)) n =
    let here : int_eq (pos (suc k)) (pos (suc k)) ≡ true = (Decides-int_eq (pos (suc k)) (pos (suc k))).1 refl in
    rw here (times_one (x (suc k)))
  where
    times_one : (y : ℤ) → y *ℤ pos 1 ≡ y
    times_one y = omega (arith, ints)
weight_itself x (negsuc k) n =
    let here : int_eq (negsuc k) (negsuc k) ≡ true = (Decides-int_eq (negsuc k) (negsuc k)).1 refl in
    rw here (times_less (x (suc k)))
  where
    times_less : (y : ℤ) → y *ℤ negsuc 0 ≡ neg_ℤ y
    times_less y = omega (arith, ints)

-- the weight of a literal is the sum over the variables of the weight times the incidence
literal_weight : (x : Weighting) (n : ℕ) (l : ℤ) → is_literal n l ≡ true → sum_of (map (λ v. x v *ℤ incidence (l ∷ []) v) (variables_to n)) ≡ weight_of x l
literal_weight x n l e =
    let range = and_true (nat_le 1 (variable l)) (nat_le (variable l) n) e in
    let least = leb-true 1 (variable l) range.0 in
    let most = leb-true (variable l) n range.1 in
    sum_one (λ v. x v *ℤ incidence (l ∷ []) v) (variables_to n) (variable l) (Differ-range 1 n) (in_variables n (variable l) (least, most))
    (λ v i o. ap (λ z. x v *ℤ z) (incidence_other l v o) ∙ *ℤ-zero (x v))
    ∙ weight_itself x l (λ z. omega (arith, z, least))

-- so is the balance of a clause
pub clause_balance : (x : Weighting) (n : ℕ) (c : List ℤ) → is_clause n c ≡ true → balance x c ≡ sum_of (map (λ v. x v *ℤ incidence c v) (variables_to n))
clause_balance x n [] e = sym (sum_zero (λ v. x v *ℤ pos 0) (variables_to n) (λ v i. *ℤ-zero (x v)))
clause_balance x n (l ∷ c) e =
    let parts = and_true (list_all (is_literal n) (l ∷ c)) (is_distinct (l ∷ c)) e in
    let literals = and_true (is_literal n l) (list_all (is_literal n) c) parts.0 in
    let distinct = and_true (not (contains c l)) (is_distinct c) parts.1 in
    let rest = clause_balance x n c (and_from (list_all (is_literal n) c) (is_distinct c) literals.1 distinct.1) in
    balance_more x l c ∙ ap (λ z. weight_of x l +ℤ z) rest
    ∙ ap (λ z. z +ℤ sum_of (map (λ v. x v *ℤ incidence c v) (variables_to n))) (sym (literal_weight x n l literals.0))
    ∙ sym (sum_plus (λ v. x v *ℤ incidence (l ∷ []) v) (λ v. x v *ℤ incidence c v) (variables_to n))
    ∙ sum_same (λ v. x v *ℤ incidence (l ∷ []) v +ℤ x v *ℤ incidence c v) (λ v. x v *ℤ incidence (l ∷ c) v) (variables_to n)
    (λ v i. sym (ap (λ z. x v *ℤ z) (incidence_more l c v (not-true (contains c l) distinct.0)) ∙ mul_add (x v) (incidence (l ∷ []) v) (incidence c v)))

-- THE FORMULA

-- Multiples of the balances of clauses sum to the weights times the balances of the multiples: the exchange.
pub balances_exchanged : (F : Cnf) (x : Weighting) (ys : List (ℕ × ℤ)) → is_formula F ≡ true
    → sum_of (map (λ (e : ℕ × ℤ). e.1 *ℤ balance x (clause_at F e.0)) ys) ≡ sum_of (map (λ v. x v *ℤ balance_in F ys v) (variables_to F.vars))
balances_exchanged F x ys form =
    sum_same (λ (e : ℕ × ℤ). e.1 *ℤ balance x (clause_at F e.0)) (λ (e : ℕ × ℤ). sum_of (map (λ v. e.1 *ℤ (x v *ℤ incidence (clause_at F e.0) v)) (variables_to F.vars))) ys
    (λ e i. ap (λ z. e.1 *ℤ z) (clause_balance x F.vars (clause_at F e.0) (form_at F e.0 form))
    ∙ sym (sum_times e.1 (λ v. x v *ℤ incidence (clause_at F e.0) v) (variables_to F.vars)))
    ∙ sum_exchange (λ (e : ℕ × ℤ) v. e.1 *ℤ (x v *ℤ incidence (clause_at F e.0) v)) ys (variables_to F.vars)
    ∙ sum_same (λ v. sum_of (map (λ (e : ℕ × ℤ). e.1 *ℤ (x v *ℤ incidence (clause_at F e.0) v)) ys)) (λ v. x v *ℤ balance_in F ys v) (variables_to F.vars) (λ v i.
    sum_same (λ (e : ℕ × ℤ). e.1 *ℤ (x v *ℤ incidence (clause_at F e.0) v)) (λ (e : ℕ × ℤ). x v *ℤ (e.1 *ℤ incidence (clause_at F e.0) v)) ys (λ e j. mul_swap e.1 (x v) (incidence (clause_at F e.0) v))
    ∙ sum_times (x v) (λ (e : ℕ × ℤ). e.1 *ℤ incidence (clause_at F e.0) v) ys)

-- UNTOUCHED CLAUSES

-- the test finds nothing in 0
pub is_nonzero_zero : (x : ℤ) → x ≡ pos 0 → is_nonzero x ≡ false
is_nonzero_zero x e = ap is_nonzero e

-- a clause of which no variable has a weight has the balance 0
pub unweighted_balance : (x : Weighting) (c : List ℤ) → list_any (λ l. is_nonzero (x (variable l))) c ≡ false → balance x c ≡ pos 0
unweighted_balance x [] e = refl
unweighted_balance x (l ∷ c) e =
    let both = or_false (is_nonzero (x (variable l))) (list_any (λ l. is_nonzero (x (variable l))) c) e in
    balance_more x l c ∙ rw (no_weight l (zero_is (x (variable l)) both.0), unweighted_balance x c both.1) refl
  where
    no_weight : (l : ℤ) → x (variable l) ≡ pos 0 → weight_of x l ≡ pos 0
    no_weight (pos v) e = e
    no_weight (negsuc k) e = ap neg_ℤ e
