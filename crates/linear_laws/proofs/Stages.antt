-- The stages of a document in form that the checks pass make its set line a linear autarky.
use Rattle.std.proofs.Common.{◌≡◌, ℕ, ◌∙◌, Bool, true, false, not, List, [], ◌∷◌, map, refl, sym, ap, subst, arith, inl, inr, Option, Some, None, ℤ, pos, neg_ℤ, ◌≤ℤ◌, int_lt}
use Rattle.std.specs.Prelude.{IfSome}
use Rattle.std.specs.List.{list_all}
use Rattle.std.specs.Option.{option_map_or}
use Rattle.std.proofs.lemmas.Int.{ints}
use Rattle.std.proofs.lemmas.Bool.{both_ways, not-false, cases_Bool, false_from_ne_true}
use Rattle.lk_model.specs.Lists.{among, rises_within}
use Rattle.lk_model.specs.Formulas.Literal.{variable, contains}
use Rattle.lk_model.specs.Formulas.Formula.{Cnf, clause_at, variables_to}
use Rattle.lk_model.specs.Formulas.Assignment.{assignment_of}
use Rattle.lk_model.specs.Formulas.Autarky.{IsLinearAutarky, first_sign, first_balance}
use Rattle.lk_model.specs.Formulas.Lean.{all_of}
use Rattle.lk_model.specs.Documents.Documents.{weighting_of}
use Rattle.lk_model.specs.Documents.Form.{is_stage, is_weight}
use Rattle.lk_model.specs.Checks.LinearChecks.{bad_sign, bad_stage, is_same_value}
use Rattle.lk_model.specs.declared.document.Stage.{Stage}
use Rattle.lk_model.specs.declared.document.Weight.{Weight}
use Rattle.lk_model.specs.declared.document.DoneDocument.{DoneDocument}
use Rattle.lk_model.proofs.Booleans.{and_true}
use Rattle.lk_model.proofs.Rising.{bounded}
use Rattle.lk_model.proofs.Founds.{none_to, none_at, up_to_bounds}
use Rattle.lk_model.proofs.Keys.{key_missing}
use Rattle.lk_model.proofs.Variables.{in_variables}
use Rattle.lk_model.proofs.Literals.{variable_complement}
use Rattle.kernel_laws.proofs.Clauses.{variables_among}

-- OUTSIDE THE VARIABLES

-- what rises from 1 to n has no other number
none_outside : (n : ℕ) (vs : List ℕ) (v : ℕ) → rises_within 0 n vs ≡ true → among (variables_to n) v ≡ false → among vs v ≡ false
none_outside n vs v r out = false_from_ne_true (among vs v) (λ there.
    let b = bounded 0 n vs v r there in both_ways (among (variables_to n) v) out (in_variables n v b))

-- the set line sets no other variable
pub unset_outside : (n : ℕ) (set : List ℤ) (v : ℕ) → rises_within 0 n (map variable set) ≡ true → among (variables_to n) v ≡ false → assignment_of set v ≡ None
unset_outside n set v r out =
    let first : contains set (pos v) ≡ false = absent (pos v) refl in
    let second : contains set (neg_ℤ (pos v)) ≡ false = absent (neg_ℤ (pos v)) (variable_complement (pos v)) in
    rw (first, second) refl
  where
    absent : (l : ℤ) → variable l ≡ v → contains set l ≡ false
    absent l s = false_from_ne_true (contains set l) (λ t.
        both_ways (among (map variable set) v) (none_outside n (map variable set) v r out) (subst (λ w. among (map variable set) w ≡ true) s (variables_among set l t)))

-- a stage has no weight for another variable
pub no_weight : (n : ℕ) (s : Stage) (v : ℕ) → is_stage n s ≡ true → among (variables_to n) v ≡ false → weighting_of s v ≡ pos 0
no_weight n s v form out =
    let key = λ (w : Weight). w.var in
    let rising = (and_true (rises_within 0 n (map key s.weights)) (list_all (λ (w : Weight). is_weight w.x) s.weights) form).0 in
    ap (λ o. option_map_or (λ (w : Weight). w.x) o (pos 0)) (key_missing key s.weights v (none_outside n (map key s.weights) v rising out))

-- so none of the stages has
pub no_sign : (n : ℕ) (stages : List Stage) (v : ℕ) → list_all (is_stage n) stages ≡ true → among (variables_to n) v ≡ false → first_sign (map weighting_of stages) v ≡ None
no_sign n [] v form out = refl
no_sign n (s ∷ stages) v form out =
    let both = and_true (is_stage n s) (list_all (is_stage n) stages) form in
    rw (no_weight n s v both.0 out, first_sign) (no_sign n stages v both.1 out)

-- THE CHECKS

-- values that are the same by the test are the same
same_value : (a b : Option Bool) → is_same_value a b ≡ true → a ≡ b
same_value None None e = refl
same_value None (Some b) e = absurd (let f : ⊥ = cc in f)
same_value (Some true) None e = absurd (let f : ⊥ = cc in f)
same_value (Some true) (Some true) e = refl
same_value (Some true) (Some false) e = absurd (let f : ⊥ = cc in f)
same_value (Some false) None e = absurd (let f : ⊥ = cc in f)
same_value (Some false) (Some true) e = absurd (let f : ⊥ = cc in f)
same_value (Some false) (Some false) e = refl

-- a variable of the formula has the sign of the first stage that is not 0 on it
sign_passes : (F : Cnf) (d : DoneDocument) (stages : List Stage) (v : ℕ) → (bad_sign F d stages).place ≡ None → among (variables_to F.vars) v ≡ true
    → assignment_of d.set v ≡ first_sign (map weighting_of stages) v
unfolding bad_sign
sign_passes F d stages v e there = let b = up_to_bounds F.vars v there in
    same_value (assignment_of d.set v) (first_sign (map weighting_of stages) v)
    (not-false _ (none_to (λ v. not (is_same_value (assignment_of d.set v) (first_sign (map weighting_of stages) v))) F.vars v e b.0 b.1))

-- a first balance that the check passes
least_where_passes : (o : Option ℤ) → option_map_or (λ b. int_lt b (pos 0)) o false ≡ false → IfSome o (λ b. pos 0 ≤ℤ b)
least_where_passes None e = tt
least_where_passes (Some b) e = least b e
  where
    least : (z : ℤ) → int_lt z (pos 0) ≡ false → pos 0 ≤ℤ z
    least z e = grind (arith, ints)

-- no clause has a first balance below 0
stage_passes : (F : Cnf) (d : DoneDocument) (stages : List Stage) (p : ℕ) → (bad_stage F d stages).place ≡ None → all_of F p ≡ true
    → IfSome (first_balance (map weighting_of stages) (clause_at F p)) (λ b. pos 0 ≤ℤ b)
unfolding bad_stage
stage_passes F d stages p e there = least_where_passes (first_balance (map weighting_of stages) (clause_at F p))
    (none_at (λ p. option_map_or (λ b. int_lt b (pos 0)) (first_balance (map weighting_of stages) (clause_at F p)) false) F p e there)

-- the set line is a linear autarky on the whole formula
pub autarky_by_stages : (F : Cnf) (d : DoneDocument) (stages : List Stage) → rises_within 0 F.vars (map variable d.set) ≡ true → list_all (is_stage F.vars) stages ≡ true
    → (bad_sign F d stages).place ≡ None → (bad_stage F d stages).place ≡ None → IsLinearAutarky F (all_of F) (assignment_of d.set)
autarky_by_stages F d stages rise form e f = record {
  weightings = map weighting_of stages;
  signs = λ v. elim (cases_Bool (among (variables_to F.vars) v)) [
    | inl there ↦ sign_passes F d stages v e there
    | inr out ↦ unset_outside F.vars d.set v rise out ∙ sym (no_sign F.vars stages v form out)
  ];
  balances = λ p there. stage_passes F d stages p f there;
}
