-- True literals, and clauses that an assignment touches or satisfies.
use Rattle.std.proofs.Common.{◌≡◌, ◌≢◌, zero, suc, Bool, true, false, not, List, refl, ℤ, pos, negsuc, Option, Some, None, is_some, unwrap_or, ◌⊎◌, inl, inr}
use Rattle.std.proofs.lemmas.Bool.{both_ways, cases_Bool}
use Rattle.lk_model.specs.Formulas.Literal.{variable, complement, contains}
use Rattle.lk_model.specs.Formulas.Assignment.{Assignment, makes_true, touches, satisfies}
use Rattle.lk_model.proofs.Variables.{literal_passing}
use Rattle.lk_model.proofs.ListTests.{passes_one}

-- a true literal's variable is set
pub set_where_true : (φ : Assignment) (l : ℤ) → makes_true φ l ≡ true → is_some (φ (variable l)) ≡ true
set_where_true φ (pos v) e = at_value (φ v) e
  where
    at_value : (o : Option Bool) → unwrap_or o false ≡ true → is_some o ≡ true
    at_value None e = absurd (let f : ⊥ = cc in f)
    at_value (Some b) e = refl
set_where_true φ (negsuc k) e = at_value (φ (suc k)) e
  where
    at_value : (o : Option Bool) → not (unwrap_or o true) ≡ true → is_some o ≡ true
    at_value None e = absurd (let f : ⊥ = cc in f)
    at_value (Some b) e = refl

-- a literal and its complement are not both true
pub not_both_true : (φ : Assignment) (t : ℤ) → t ≢ pos 0 → makes_true φ t ≡ true → makes_true φ (complement t) ≡ true → ⊥
not_both_true φ (pos zero) n e f = n refl
not_both_true φ (pos (suc k)) n e f = at_value (φ (suc k)) e f
  where
    at_value : (o : Option Bool) → unwrap_or o false ≡ true → not (unwrap_or o true) ≡ true → ⊥
    at_value None e f = let g : ⊥ = cc in g
    at_value (Some true) e f = let g : ⊥ = cc in g
    at_value (Some false) e f = let g : ⊥ = cc in g
not_both_true φ (negsuc k) n e f = at_value (φ (suc k)) e f
  where
    at_value : (o : Option Bool) → not (unwrap_or o true) ≡ true → unwrap_or o false ≡ true → ⊥
    at_value None e f = let g : ⊥ = cc in g
    at_value (Some true) e f = let g : ⊥ = cc in g
    at_value (Some false) e f = let g : ⊥ = cc in g

-- a clause with a literal on a variable that is set is touched
pub touched_at : (φ : Assignment) (c : List ℤ) (l : ℤ) → contains c l ≡ true → is_some (φ (variable l)) ≡ true → touches φ c ≡ true
touched_at φ c l m e = passes_one (λ k. is_some (φ (variable k))) c l m e

-- and a literal that shows it
pub touching : (φ : Assignment) (c : List ℤ) → touches φ c ≡ true → (l : ℤ) × (contains c l ≡ true) × (is_some (φ (variable l)) ≡ true)
touching φ c e = literal_passing (λ k. is_some (φ (variable k))) c e

-- a clause with a true literal is satisfied
pub satisfied_at : (φ : Assignment) (c : List ℤ) (l : ℤ) → contains c l ≡ true → makes_true φ l ≡ true → satisfies φ c ≡ true
satisfied_at φ c l m e = passes_one (makes_true φ) c l m e

-- and a literal that shows it
pub satisfying : (φ : Assignment) (c : List ℤ) → satisfies φ c ≡ true → (l : ℤ) × (contains c l ≡ true) × (makes_true φ l ≡ true)
satisfying φ c e = literal_passing (makes_true φ) c e

-- a clause that is not touched is not satisfied
pub untouched_unsatisfied : (φ : Assignment) (c : List ℤ) → touches φ c ≡ false → satisfies φ c ≡ false
untouched_unsatisfied φ c u = elim (cases_Bool (satisfies φ c)) [
  | inl s ↦ (let w = satisfying φ c s in absurd (both_ways (touches φ c) u (touched_at φ c w.0 w.1 (set_where_true φ w.0 w.2))))
  | inr n ↦ n
]

-- of a variable that is set, the literal or its complement is true; 0 is no literal
pub true_literal : (φ : Assignment) (l : ℤ) → l ≢ pos 0 → is_some (φ (variable l)) ≡ true → (makes_true φ l ≡ true) ⊎ (makes_true φ (complement l) ≡ true)
true_literal φ (pos zero) n e = absurd (n refl)
true_literal φ (pos (suc k)) n e = at_value (φ (suc k)) e
  where
    at_value : (o : Option Bool) → is_some o ≡ true → (unwrap_or o false ≡ true) ⊎ (not (unwrap_or o true) ≡ true)
    at_value None e = absurd (let f : ⊥ = cc in f)
    at_value (Some true) e = inl refl
    at_value (Some false) e = inr refl
true_literal φ (negsuc k) n e = at_value (φ (suc k)) e
  where
    at_value : (o : Option Bool) → is_some o ≡ true → (not (unwrap_or o true) ≡ true) ⊎ (unwrap_or o false ≡ true)
    at_value None e = absurd (let f : ⊥ = cc in f)
    at_value (Some true) e = inr refl
    at_value (Some false) e = inl refl
