-- Duals and units show that positions are lean for linear autarkies.
use Rattle.std.proofs.Common.{◌≡◌, ◌≢◌, ℕ, Bool, true, false, cond, ◌==◌, List, [], ◌∷◌, map, ℤ, pos, ◌*ℤ◌, ◌<ℤ◌, ◌≤ℤ◌, refl, sym, ap, ◌∙◌, arith, inl, inr, Contains, Some, None, is_some}
use Rattle.std.specs.Prelude.{IfSome}
use Rattle.std.specs.List.{list_any}
use Rattle.std.proofs.lemmas.Int.{ints}
use Rattle.std.proofs.lemmas.Bool.{both_ways, eq-eqb, cases_Bool, false_from_ne_true}
use Rattle.std.proofs.Math.IntN.{*ℤ_comm, *ℤ-zero}
use Rattle.lk_model.specs.declared.class.Class.TheVariants.{Linear}
use Rattle.lk_model.specs.Lists.{sum_of, among, is_nonzero}
use Rattle.lk_model.specs.Formulas.Literal.{variable, complement, mentions, contains}
use Rattle.lk_model.specs.Formulas.Formula.{Cnf, clause_at, is_formula, variables_to, variable_occurs}
use Rattle.lk_model.specs.Formulas.Balance.{Weighting, balance, incidence, balance_in}
use Rattle.lk_model.specs.Formulas.Autarky.{first_sign, first_balance}
use Rattle.lk_model.specs.Formulas.Lean.{IsLean}
use Rattle.lk_model.proofs.Counting.{Differ-range}
use Rattle.lk_model.proofs.Variables.{literal_passing, occurs}
use Rattle.lk_model.proofs.ListTests.{passes_one}
use Rattle.lk_model.proofs.Literals.{variable_complement}
use Rattle.lk_model.proofs.Products.{times_least}
use Rattle.kernel_laws.proofs.Occurrences.{occurring, occurs_here}
use Rattle.kernel_laws.proofs.Lists.{among_in}
use Rattle.linear_laws.proofs.Sums.{cancel_zero, sum_zero, sum_none, sum_one}
use Rattle.linear_laws.proofs.Balances.{balances_exchanged, unweighted_balance, is_nonzero_zero}

-- A VARIABLE THAT DOES NOT OCCUR

-- a clause without the variable has no incidence in it
pub incidence_absent : (c : List ℤ) (v : ℕ) → mentions c v ≡ false → incidence c v ≡ pos 0
incidence_absent c v e =
    let first : contains c (pos v) ≡ false = absent (pos v) refl in
    let second : contains c (complement (pos v)) ≡ false = absent (complement (pos v)) (variable_complement (pos v)) in
    rw (first, second) refl
  where
    absent : (l : ℤ) → variable l ≡ v → contains c l ≡ false
    absent l s = false_from_ne_true (contains c l) (λ t. both_ways (mentions c v) e (passes_one (λ k. variable k == v) c l t (eq-eqb (variable l) v s)))

-- so numbers at kept positions balance to 0 in a variable that does not occur there
pub balance_absent : (F : Cnf) (kept : List ℕ) (xs : List (ℕ × ℤ)) (v : ℕ) → ((x : ℕ × ℤ) → Contains xs x → among kept x.0 ≡ true)
    → variable_occurs F kept v ≡ false → balance_in F xs v ≡ pos 0
balance_absent F kept xs v within out = sum_zero (λ (x : ℕ × ℤ). x.1 *ℤ incidence (clause_at F x.0) v) xs (λ x i.
    let none = false_from_ne_true (mentions (clause_at F x.0) v) (λ m. both_ways (variable_occurs F kept v) out (occurs F kept x.0 v (within x i) m)) in
    ap (λ z. x.1 *ℤ z) (incidence_absent (clause_at F x.0) v none) ∙ *ℤ-zero x.1)

-- WHAT DUALS AND UNITS SAY

-- positive numbers at the kept positions and no others, of which each has one, that balance to 0 in each variable
pub record HasDuals (F : Cnf) (kept : List ℕ) : Type 0 where
  pub duals : List (ℕ × ℤ)
  pub each : (p : ℕ) → among kept p ≡ true → (y : ℤ) × Contains duals (p, y)
  pub positive : (e : ℕ × ℤ) → Contains duals e → (among kept e.0 ≡ true) × (pos 0 <ℤ e.1)
  pub balanced : (v : ℕ) → among (variables_to F.vars) v ≡ true → balance_in F duals v ≡ pos 0

-- numbers at kept positions that balance to some d other than 0 in the variable, and to 0 in each other one that occurs
pub record HasUnit (F : Cnf) (kept : List ℕ) (v : ℕ) : Type 0 where
  pub d : ℤ
  pub shares : List (ℕ × ℤ)
  pub some : d ≢ pos 0
  pub within : (e : ℕ × ℤ) → Contains shares e → among kept e.0 ≡ true
  pub itself : balance_in F shares v ≡ d
  pub others : (w : ℕ) → variable_occurs F kept w ≡ true → w ≢ v → balance_in F shares w ≡ pos 0

-- ONE WEIGHTING

-- Where no kept clause has a balance below 0, each has the balance 0.
pub balances_zero : (F : Cnf) (kept : List ℕ) (x : Weighting) → is_formula F ≡ true → HasDuals F kept
    → ((p : ℕ) → among kept p ≡ true → pos 0 ≤ℤ balance x (clause_at F p)) → (p : ℕ) → among kept p ≡ true → balance x (clause_at F p) ≡ pos 0
balances_zero F kept x form h least p there =
    let term : ℕ × ℤ → ℤ = λ (e : ℕ × ℤ). e.1 *ℤ balance x (clause_at F e.0) in
    let whole : sum_of (map term h.duals) ≡ pos 0 = balances_exchanged F x h.duals form
    ∙ sum_zero (λ v. x v *ℤ balance_in F h.duals v) (variables_to F.vars) (λ v i. ap (λ z. x v *ℤ z) (h.balanced v (among_in (variables_to F.vars) v i)) ∙ *ℤ-zero (x v)) in
    let own = h.each p there in
    let here : own.0 *ℤ balance x (clause_at F p) ≡ pos 0 = sum_none term h.duals (λ e i. let q = h.positive e i in times_least e.1 (balance x (clause_at F e.0)) (weak e.1 q.1) (least e.0 q.0)) whole (p, own.0) own.1 in
    cancel_zero own.0 (balance x (clause_at F p)) (not_zero own.0 (h.positive (p, own.0) own.1).1) here
  where
    weak : (z : ℤ) → pos 0 <ℤ z → pos 0 ≤ℤ z
    weak z g = omega (arith, ints, g)

    not_zero : (z : ℤ) → pos 0 <ℤ z → z ≢ pos 0
    not_zero z g e = omega (arith, ints, g, e)

-- Where each kept clause has the balance 0, no variable of them has a weight.
pub weight_zero : (F : Cnf) (kept : List ℕ) (x : Weighting) (v : ℕ) → is_formula F ≡ true → HasUnit F kept v → among (variables_to F.vars) v ≡ true
    → ((p : ℕ) → among kept p ≡ true → balance x (clause_at F p) ≡ pos 0) → x v ≡ pos 0
weight_zero F kept x v form u there zeros =
    let term : ℕ × ℤ → ℤ = λ (e : ℕ × ℤ). e.1 *ℤ balance x (clause_at F e.0) in
    let none : sum_of (map term u.shares) ≡ pos 0 = sum_zero term u.shares (λ e i. ap (λ z. e.1 *ℤ z) (zeros e.0 (u.within e i)) ∙ *ℤ-zero e.1) in
    let one : sum_of (map (λ w. x w *ℤ balance_in F u.shares w) (variables_to F.vars)) ≡ x v *ℤ balance_in F u.shares v =
    sum_one (λ w. x w *ℤ balance_in F u.shares w) (variables_to F.vars) v (Differ-range 1 F.vars) there (λ w i n. ap (λ z. x w *ℤ z) (others w n) ∙ *ℤ-zero (x w)) in
    cancel_zero u.d (x v) u.some (*ℤ_comm u.d (x v) ∙ ap (λ z. x v *ℤ z) (sym u.itself) ∙ sym one ∙ sym (balances_exchanged F x u.shares form) ∙ none)
  where
    others : (w : ℕ) → w ≢ v → balance_in F u.shares w ≡ pos 0
    others w n = elim (cases_Bool (variable_occurs F kept w)) [
      | inl y ↦ u.others w y n
      | inr o ↦ balance_absent F kept u.shares w u.within o
    ]

-- ALL WEIGHTINGS

-- no kept clause has a variable with a weight, so that the next weighting counts
past_weighting : (F : Cnf) (kept : List ℕ) (x : Weighting) → ((v : ℕ) → variable_occurs F kept v ≡ true → x v ≡ pos 0) → (p : ℕ) → among kept p ≡ true
    → list_any (λ l. is_nonzero (x (variable l))) (clause_at F p) ≡ false
past_weighting F kept x zeros p there = false_from_ne_true _ (λ e.
    let l = literal_passing (λ l. is_nonzero (x (variable l))) (clause_at F p) e in
    let f : true ≡ false = sym l.2 ∙ is_nonzero_zero (x (variable l.0)) (zeros (variable l.0) (occurs_here F kept p l.0 there l.1)) in
    let g : ⊥ = cc in g)

-- the first balance of a clause is not negative: the balance of the first weighting is not, where an earlier one may count
least_first : (x : Weighting) (xs : List Weighting) (c : List ℤ) → IfSome (first_balance (x ∷ xs) c) (λ b. pos 0 ≤ℤ b) → pos 0 ≤ℤ balance x c
least_first x xs c h = at_test (list_any (λ l. is_nonzero (x (variable l))) c) refl h
  where
    at_test : (b : Bool) → list_any (λ l. is_nonzero (x (variable l))) c ≡ b → IfSome (cond b (Some (balance x c)) (first_balance xs c)) (λ b. pos 0 ≤ℤ b) → pos 0 ≤ℤ balance x c
    at_test true e h = h
    at_test false e h = zero_least (balance x c) (unweighted_balance x c e)
      where
        zero_least : (z : ℤ) → z ≡ pos 0 → pos 0 ≤ℤ z
        zero_least z e = omega (arith, ints, e)

-- weightings that make no first balance negative have no sign at the variables of the kept clauses
no_signs : (F : Cnf) (kept : List ℕ) (ws : List Weighting) → is_formula F ≡ true → HasDuals F kept
    → ((v : ℕ) → variable_occurs F kept v ≡ true → HasUnit F kept v)
    → ((p : ℕ) → among kept p ≡ true → IfSome (first_balance ws (clause_at F p)) (λ b. pos 0 ≤ℤ b))
    → (v : ℕ) → variable_occurs F kept v ≡ true → first_sign ws v ≡ None
no_signs F kept [] form duals units least v there = refl
no_signs F kept (x ∷ xs) form duals units least v there =
    let balances = balances_zero F kept x form duals (λ p i. least_first x xs (clause_at F p) (least p i)) in
    let weights : (w : ℕ) → variable_occurs F kept w ≡ true → x w ≡ pos 0 = λ w i. weight_zero F kept x w form (units w i) (occurring F kept w form i) balances in
    let rest = no_signs F kept xs form duals units (λ p i. past (clause_at F p) (past_weighting F kept x weights p i) (least p i)) in
    rw (weights v there) (rest v there)
  where
    past : (c : List ℤ) → list_any (λ l. is_nonzero (x (variable l))) c ≡ false → IfSome (first_balance (x ∷ xs) c) (λ b. pos 0 ≤ℤ b) → IfSome (first_balance xs c) (λ b. pos 0 ≤ℤ b)
    past c e h = rw e at h

-- THE LAW: where kept positions have duals, and each of their variables a unit, they are lean.
pub lean_by_units : (F : Cnf) (kept : List ℕ) → is_formula F ≡ true → HasDuals F kept
    → ((v : ℕ) → variable_occurs F kept v ≡ true → HasUnit F kept v) → IsLean Linear F (among kept)
lean_by_units F kept form duals units φ a p there t =
    let l = literal_passing (λ l. is_some (φ (variable l))) (clause_at F p) t in
    let unset : φ (variable l.0) ≡ None = a.signs (variable l.0) ∙ no_signs F kept a.weightings form duals units a.balances (variable l.0) (occurs_here F kept p l.0 there l.1) in
    let f : true ≡ false = sym l.2 ∙ ap is_some unset in
    let g : ⊥ = cc in g
