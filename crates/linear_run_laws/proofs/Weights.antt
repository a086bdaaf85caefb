-- The weights of a stage, and the balances that they make in the clauses of the rows.
use Rattle.std.proofs.Common.{◌≡◌, inl, inr, ℕ, zero, suc, ◌-◌, ◌<◌, true, false, ◌==◌, List, [], ◌∷◌, map, zip, filter, length, get_or, ℤ, pos, ◌*ℤ◌, refl, sym, ap, ◌∙◌, subst, arith}
use Rattle.std.specs.Prelude.{find}
use Rattle.std.specs.Option.{option_map_or}
use Rattle.std.proofs.Math.IntN.{*ℤ-zero}
use Rattle.std.proofs.lemmas.Bool.{cases_Bool, eqb-true, eq-eqb, both_ways, false_from_ne_true}
use Rattle.lk_model.specs.Lists.{up_to, sum_of, among, is_nonzero}
use Rattle.lk_model.specs.Formulas.Literal.{mentions}
use Rattle.lk_model.specs.Formulas.Formula.{Cnf, clause_at, is_formula, variables_to, variables_at, variable_occurs}
use Rattle.lk_model.specs.Formulas.Balance.{Weighting, balance, incidence}
use Rattle.lk_model.specs.declared.document.Weight.{Weight}
use Rattle.lk_model.proofs.Booleans.{or_false}
use Rattle.lk_model.proofs.Counting.{Differ, more}
use Rattle.lk_model.proofs.Variables.{occurs}
use Rattle.linear_laws.proofs.Balances.{clause_balance}
use Rattle.linear_laws.proofs.LinearLean.{incidence_absent}
use Rattle.lk_model.proofs.Clauses.{form_at}
use Rattle.lk_model.proofs.Lists.{among_at}
use Rattle.lk_model.proofs.ListTests.{zero_is}
use Rattle.linear_run_laws.proofs.Places.{sum_filtered}
use Rattle.exact_pivot.proofs.Starts.{sum_places}

-- THE WEIGHTS

-- the weights of variables that stand beside numbers, without those that are 0
abbrev pub weights_by : List ℕ → List ℤ → List Weight
weights_by vs xs = filter (λ (w : Weight). is_nonzero w.x) (map (λ (v, x). record { var = v; x = x }) (zip vs xs))

-- the weight of a variable among them
abbrev pub weight_by : List ℕ → List ℤ → ℕ → ℤ
weight_by vs xs v = option_map_or (λ (w : Weight). w.x) (find (λ (w : Weight). w.var == v) (weights_by vs xs)) (pos 0)

-- one more variable, which is another one
weight_past : (u : ℕ) (vs : List ℕ) (x : ℤ) (xs : List ℤ) (v : ℕ) → (u == v) ≡ false → weight_by (u ∷ vs) (x ∷ xs) v ≡ weight_by vs xs v
weight_past u vs x xs v e = elim (cases_Bool (is_nonzero x)) [
  | inl y ↦ rw (y, e) refl
  | inr n ↦ rw n refl
]

-- a variable that does not stand there has no weight
pub weight_absent : (vs : List ℕ) (xs : List ℤ) (v : ℕ) → among vs v ≡ false → weight_by vs xs v ≡ pos 0
weight_absent [] xs v out = refl
weight_absent (u ∷ vs) [] v out = refl
weight_absent (u ∷ vs) (x ∷ xs) v out =
    let both = or_false (u == v) (among vs v) out in
    weight_past u vs x xs v both.0 ∙ weight_absent vs xs v both.1

-- the variable itself has the number
weight_here : (vs : List ℕ) (x : ℤ) (xs : List ℤ) (v : ℕ) → among vs v ≡ false → weight_by (v ∷ vs) (x ∷ xs) v ≡ x
weight_here vs x xs v out = elim (cases_Bool (is_nonzero x)) [
  | inl y ↦ rw (y, eq-eqb v v refl) refl
  | inr n ↦ rw n (weight_absent vs xs v out ∙ sym (zero_is x n))
]

-- each variable has the number beside it
pub weight_at : (vs : List ℕ) (xs : List ℤ) (i : ℕ) → Differ vs → i < length vs → weight_by vs xs (get_or vs i 0) ≡ get_or xs i (pos 0)
weight_at [] xs i d h = absurd (omega (arith, h))
weight_at (u ∷ vs) [] i d h = refl
weight_at (u ∷ vs) (x ∷ xs) zero (more _ _ out d) h = weight_here vs x xs u out
weight_at (u ∷ vs) (x ∷ xs) (suc i) (more _ _ out d) h =
    let inside : i < length vs = omega (arith, h) in
    let other : (u == get_or vs i 0) ≡ false = false_from_ne_true (u == get_or vs i 0) (λ e.
    both_ways (among vs u) out (subst (λ w. among vs w ≡ true) (sym (eqb-true u (get_or vs i 0) e)) (among_at vs i inside))) in
    weight_past u vs x xs (get_or vs i 0) other ∙ weight_at vs xs i d inside

-- BALANCES OVER THE VARIABLES OF THE CLAUSES

-- the balance of a clause of S, by the variables of S
pub balance_by_places : (F : Cnf) (S : List ℕ) (x : Weighting) (p : ℕ) → is_formula F ≡ true → among S p ≡ true
    → balance x (clause_at F p) ≡ sum_of (map (λ j. x (get_or (variables_at F S) (j - 1) 0) *ℤ incidence (clause_at F p) (get_or (variables_at F S) (j - 1) 0)) (up_to (length (variables_at F S))))
balance_by_places F S x p form there =
    clause_balance x F.vars (clause_at F p) (form_at F p form)
    ∙ sym (sum_filtered (λ v. x v *ℤ incidence (clause_at F p) v) (variable_occurs F S) (variables_to F.vars) none)
    ∙ sym (sum_places (λ v. x v *ℤ incidence (clause_at F p) v) (variables_at F S) 0 1)
  where
    none : (v : ℕ) → variable_occurs F S v ≡ false → x v *ℤ incidence (clause_at F p) v ≡ pos 0
    none v out =
        let absent : mentions (clause_at F p) v ≡ false = false_from_ne_true (mentions (clause_at F p) v) (λ t. both_ways (variable_occurs F S v) out (occurs F S p v there t)) in
        ap (λ z. x v *ℤ z) (incidence_absent (clause_at F p) v absent) ∙ *ℤ-zero (x v)
