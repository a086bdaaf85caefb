-- The set line of stages: the literals with the signs of the variables.
use Rattle.std.proofs.Common.{◌≡◌, ℕ, zero, suc, ◌∙◌, Bool, true, false, List, map, refl, sym, ap, arith, ℤ, pos, neg_ℤ, Option, Some, None, inl, inr}
use Rattle.std.specs.Prelude.{option_map}
use Rattle.std.specs.List.{list_all}
use Rattle.std.proofs.lemmas.Bool.{cases_Bool, false_from_ne_true}
use Rattle.lk_model.specs.Lists.{among, rises_within}
use Rattle.lk_model.specs.Formulas.Literal.{variable, literal_of, contains}
use Rattle.lk_model.specs.Formulas.Formula.{Cnf, variables_to}
use Rattle.lk_model.specs.Formulas.Assignment.{assignment_of}
use Rattle.lk_model.specs.Formulas.Autarky.{first_sign}
use Rattle.lk_model.specs.Documents.Documents.{weighting_of}
use Rattle.lk_model.specs.Documents.Form.{is_stage}
use Rattle.lk_model.specs.declared.document.Stage.{Stage}
use Rattle.lk_model.proofs.Founds.{up_to_bounds}
use Rattle.lk_model.proofs.Literals.{variable_of as literal_on}
use Rattle.kernel_laws.proofs.ChosenLiterals.{from_chosen, in_chosen, chosen_rise}
use Rattle.linear_laws.proofs.Stages.{unset_outside, no_sign}
use Rattle.linear_run_laws.specs.RunLaw.{sign_literal, sign_line}

-- SIGNS

-- the chosen literal of a variable is on it
on_itself : (stages : List Stage) (v : ℕ) (l : ℤ) → sign_literal stages v ≡ Some l → variable l ≡ v
on_itself stages v l e = by_sign (first_sign (map weighting_of stages) v) e
  where
    by_sign : (o : Option Bool) → option_map (literal_of v) o ≡ Some l → variable l ≡ v
    by_sign None e = absurd (let f : ⊥ = cc in f)
    by_sign (Some b) e = let same : literal_of v b ≡ l = cc in sym (ap variable same) ∙ literal_on v b

-- the set line rises
pub line_rises : (F : Cnf) (stages : List Stage) → rises_within 0 F.vars (map variable (sign_line F stages)) ≡ true
line_rises F stages = chosen_rise (sign_literal stages) 0 1 F.vars F.vars (on_itself stages) (omega arith) (omega arith)

-- the set line has the sign of each variable
line_at : (F : Cnf) (stages : List Stage) (v : ℕ) → among (variables_to F.vars) v ≡ true → assignment_of (sign_line F stages) v ≡ first_sign (map weighting_of stages) v
line_at F stages v there = by_sign (first_sign (map weighting_of stages) v) refl
  where
    -- a literal of the variable in the line is the one chosen
    chosen : (l : ℤ) → variable l ≡ v → contains (sign_line F stages) l ≡ true → sign_literal stages v ≡ Some l
    chosen l on inside =
        let w = from_chosen (sign_literal stages) (variables_to F.vars) l inside in
        let same : w.0 ≡ v = sym (on_itself stages w.0 l w.1) ∙ on in
        ap (sign_literal stages) (sym same) ∙ w.1

    absent : (l : ℤ) (o : Option Bool) → first_sign (map weighting_of stages) v ≡ o → variable l ≡ v → (option_map (literal_of v) o ≡ Some l → ⊥) → contains (sign_line F stages) l ≡ false
    absent l o e on never = false_from_ne_true (contains (sign_line F stages) l) (λ inside. never (sym (ap (option_map (literal_of v)) e) ∙ chosen l on inside))

    present : (b : Bool) → first_sign (map weighting_of stages) v ≡ Some b → contains (sign_line F stages) (literal_of v b) ≡ true
    present b e = in_chosen (sign_literal stages) (variables_to F.vars) v (literal_of v b) there (ap (option_map (literal_of v)) e)

    some : (w : ℕ) → w ≡ v → neg_ℤ (pos w) ≡ pos w → ⊥
    some zero s e = let b = up_to_bounds F.vars v there in omega (arith, b, s)
    some (suc k) s e = let f : ⊥ = cc in f

    by_sign : (o : Option Bool) → first_sign (map weighting_of stages) v ≡ o → assignment_of (sign_line F stages) v ≡ o
    by_sign None e =
        let first = absent (pos v) None e refl (λ s. (let f : ⊥ = cc in f)) in
        let second = absent (neg_ℤ (pos v)) None e (literal_on v false) (λ s. (let f : ⊥ = cc in f)) in
        rw (first, second) refl
    by_sign (Some true) e = rw (present true e) refl
    by_sign (Some false) e =
        let first = absent (pos v) (Some false) e refl (λ s. some v refl (cc)) in
        rw (first, present false e) refl

-- so it has those signs at every variable
pub line_signs : (F : Cnf) (stages : List Stage) → list_all (is_stage F.vars) stages ≡ true → (v : ℕ) → assignment_of (sign_line F stages) v ≡ first_sign (map weighting_of stages) v
line_signs F stages form v = elim (cases_Bool (among (variables_to F.vars) v)) [
  | inl there ↦ line_at F stages v there
  | inr out ↦ unset_outside F.vars (sign_line F stages) v (line_rises F stages) out ∙ sym (no_sign F.vars stages v form out)
]
