-- The first failing check of the class linear, and what the form of its body gives.
use Rattle.std.proofs.Common.{◌≡◌, ◌∙◌, ℕ, true, List, [], ◌∷◌, map, subst, Some, None}
use Rattle.std.specs.List.{list_all}
use Rattle.lk_model.specs.Lists.{rises_within}
use Rattle.lk_model.specs.Formulas.Formula.{Cnf}
use Rattle.lk_model.specs.Formulas.Crossed.{no_variable}
use Rattle.lk_model.specs.Documents.Form.{is_done_in_form, is_body, is_stage, are_duals, is_linear_unit}
use Rattle.lk_model.specs.Checks.Check.{first_of}
use Rattle.lk_model.specs.Checks.Checks.{class_checks}
use Rattle.lk_model.specs.Checks.LinearChecks.{bad_sign, bad_stage, bad_dual, bad_balance, bad_unit}
use Rattle.lk_model.specs.declared.document.Stage.{Stage}
use Rattle.lk_model.specs.declared.document.Dual.{Dual}
use Rattle.lk_model.specs.declared.document.Unit.{Unit}
use Rattle.lk_model.specs.declared.document.Body.{Body}
use Rattle.lk_model.specs.declared.document.Body.TheVariants.{Linear}
use Rattle.lk_model.specs.declared.document.DoneDocument.{DoneDocument}
use Rattle.lk_model.specs.declared.verdict.Kind.TheVariants.{BadSign, BadStage, BadDual, BadBalance, BadUnit}
use Rattle.lk_model.proofs.Booleans.{and_true}
use Rattle.kernel_laws.proofs.Passed.{in_form}
use Rattle.lean_checker.proofs.FirstFailures.{failure, fails_first, passes_first}

module _ (F : Cnf) (d : DoneDocument) (stages : List Stage) (dual : List Dual) (units : List Unit) where
  pub sign_fails : (p : ℕ) → Some p ≡ (bad_sign F d stages).place → Some (failure BadSign p) ≡ first_of (class_checks no_variable F d (Linear stages dual units))
  unfolding bad_sign
  sign_fails p e = fails_first (bad_sign F d stages) (bad_stage F d stages ∷ bad_dual F d dual ∷ bad_balance no_variable F d dual ∷ bad_unit no_variable F d units ∷ []) p e

  pub stage_fails : (p : ℕ) → None ≡ (bad_sign F d stages).place → Some p ≡ (bad_stage F d stages).place → Some (failure BadStage p) ≡ first_of (class_checks no_variable F d (Linear stages dual units))
  unfolding bad_stage
  stage_fails p a e = fails_first (bad_stage F d stages) (bad_dual F d dual ∷ bad_balance no_variable F d dual ∷ bad_unit no_variable F d units ∷ []) p e
      ∙ passes_first (bad_sign F d stages) (bad_stage F d stages ∷ bad_dual F d dual ∷ bad_balance no_variable F d dual ∷ bad_unit no_variable F d units ∷ []) a

  -- what stands behind the stages is the first failure of all where they pass
  behind_stages : None ≡ (bad_sign F d stages).place → None ≡ (bad_stage F d stages).place
      → first_of (bad_dual F d dual ∷ bad_balance no_variable F d dual ∷ bad_unit no_variable F d units ∷ []) ≡ first_of (class_checks no_variable F d (Linear stages dual units))
  behind_stages a b = passes_first (bad_stage F d stages) (bad_dual F d dual ∷ bad_balance no_variable F d dual ∷ bad_unit no_variable F d units ∷ []) b
      ∙ passes_first (bad_sign F d stages) (bad_stage F d stages ∷ bad_dual F d dual ∷ bad_balance no_variable F d dual ∷ bad_unit no_variable F d units ∷ []) a

  pub dual_fails : (p : ℕ) → None ≡ (bad_sign F d stages).place → None ≡ (bad_stage F d stages).place → Some p ≡ (bad_dual F d dual).place → Some (failure BadDual p) ≡ first_of (class_checks no_variable F d (Linear stages dual units))
  unfolding bad_dual
  dual_fails p a b e = fails_first (bad_dual F d dual) (bad_balance no_variable F d dual ∷ bad_unit no_variable F d units ∷ []) p e ∙ behind_stages a b

  pub balance_fails : (p : ℕ) → None ≡ (bad_sign F d stages).place → None ≡ (bad_stage F d stages).place → None ≡ (bad_dual F d dual).place → Some p ≡ (bad_balance no_variable F d dual).place
      → Some (failure BadBalance p) ≡ first_of (class_checks no_variable F d (Linear stages dual units))
  unfolding bad_balance
  balance_fails p a b c e = fails_first (bad_balance no_variable F d dual) (bad_unit no_variable F d units ∷ []) p e
      ∙ passes_first (bad_dual F d dual) (bad_balance no_variable F d dual ∷ bad_unit no_variable F d units ∷ []) c ∙ behind_stages a b

  pub unit_fails : (p : ℕ) → None ≡ (bad_sign F d stages).place → None ≡ (bad_stage F d stages).place → None ≡ (bad_dual F d dual).place → None ≡ (bad_balance no_variable F d dual).place → Some p ≡ (bad_unit no_variable F d units).place
      → Some (failure BadUnit p) ≡ first_of (class_checks no_variable F d (Linear stages dual units))
  unfolding bad_unit
  unit_fails p a b c g e = fails_first (bad_unit no_variable F d units) [] p e ∙ passes_first (bad_balance no_variable F d dual) (bad_unit no_variable F d units ∷ []) g
      ∙ passes_first (bad_dual F d dual) (bad_balance no_variable F d dual ∷ bad_unit no_variable F d units ∷ []) c ∙ behind_stages a b

-- WHAT THE FORM GIVES

-- the parts of a linear body
pub record AreLinearParts (n m : ℕ) (stages : List Stage) (dual : List Dual) (units : List Unit) : Type 0 where
  pub stages_are : list_all (is_stage n) stages ≡ true
  pub duals_are : are_duals m dual ≡ true
  pub units_rise : rises_within 0 n (map (λ (u : Unit). u.var) units) ≡ true
  pub units_are : list_all (is_linear_unit m) units ≡ true

parts_of : (n m : ℕ) (stages : List Stage) (dual : List Dual) (units : List Unit) → is_body n m (Linear stages dual units) ≡ true → AreLinearParts n m stages dual units
unfolding is_body
parts_of n m stages dual units form =
    let a = and_true _ (list_all (is_linear_unit m) units) form in
    let b = and_true _ (rises_within 0 n (map (λ (u : Unit). u.var) units)) a.0 in
    let c = and_true (list_all (is_stage n) stages) (are_duals m dual) b.0 in
    record { stages_are = c.0; duals_are = c.1; units_rise = b.1; units_are = a.1 }

-- over the formula's numbers
pub linear_parts : (n m : ℕ) (d : DoneDocument) (stages : List Stage) (dual : List Dual) (units : List Unit) → is_done_in_form d ≡ true → d.body ≡ Linear stages dual units → d.vars ≡ n → d.clauses ≡ m → AreLinearParts n m stages dual units
linear_parts n m d stages dual units form is vars clauses =
    subst (λ (k : ℕ). AreLinearParts n k stages dual units) clauses (subst (λ (k : ℕ). AreLinearParts k d.clauses stages dual units) vars
    (parts_of d.vars d.clauses stages dual units (subst (λ (b : Body). is_body d.vars d.clauses b ≡ true) is (in_form d form).body)))
