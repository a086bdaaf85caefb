-- A linear document that the checks accept is a reduction of the formula.
use Rattle.std.proofs.Common.{◌≡◌, true, List, length, map, None}
use Rattle.std.specs.List.{list_all}
use Rattle.lk_model.specs.declared.class.Class.TheVariants as class
use Rattle.lk_model.specs.Lists.{among, rises_within}
use Rattle.lk_model.specs.Formulas.Formula.{Cnf, is_formula}
use Rattle.lk_model.specs.Formulas.Crossed.{no_variable}
use Rattle.lk_model.specs.Formulas.Assignment.{assignment_of}
use Rattle.lk_model.specs.Formulas.Lean.{IsLean, are_positions}
use Rattle.lk_model.specs.Documents.Documents.{class_of}
use Rattle.lk_model.specs.Documents.Form.{is_stage, is_linear_unit, are_duals, is_body}
use Rattle.lk_model.specs.Checks.LinearChecks.{bad_sign, bad_stage, bad_dual, bad_balance, bad_unit}
use Rattle.lk_model.specs.Checks.Checks.{class_checks}
use Rattle.lk_model.specs.declared.document.Body.{Body}
use Rattle.lk_model.specs.declared.document.Body.TheVariants.{Pure, Matching, Linear, General}
use Rattle.lk_model.specs.declared.document.DoneDocument.{DoneDocument}
use Rattle.lk_model.specs.declared.document.Stage.{Stage}
use Rattle.lk_model.specs.declared.document.Dual.{Dual}
use Rattle.lk_model.specs.declared.document.Unit.{Unit}
use Rattle.lk_model.proofs.Booleans.{and_true}
use Rattle.kernel_laws.specs.Accepted.{AcceptedReduces}
use Rattle.kernel_laws.proofs.Passed.{HaveNoPlace, has_passed, accepted_form, exactly_removed}
use Rattle.kernel_laws.proofs.Reductions.{reduces_by, reduction_of}
use Rattle.kernel_laws.proofs.LinearAutarkies.{linear_is_autarky}
use Rattle.linear_laws.specs.LinearLaw.{LinearLaw}
use Rattle.linear_laws.proofs.LinearLean.{lean_by_units}
use Rattle.linear_laws.proofs.Duals.{duals_by_check}
use Rattle.linear_laws.proofs.Units.{units_by_check}
use Rattle.linear_laws.proofs.Stages.{autarky_by_stages}

-- THE LAW, PIECE BY PIECE

-- duals and units that the checks pass make the kept set lean
pub linear_lean : (F : Cnf) (d : DoneDocument) (dual : List Dual) (units : List Unit) → is_formula F ≡ true → are_positions F d.kept ≡ true
    → are_duals (length F.clauses) dual ≡ true → (bad_dual F d dual).place ≡ None → (bad_balance no_variable F d dual).place ≡ None → (bad_unit no_variable F d units).place ≡ None
    → IsLean class.Linear F (among d.kept)
linear_lean F d dual units form rise fine e f g = lean_by_units F d.kept form (duals_by_check F d dual rise fine e f) (units_by_check F d units form g)

-- ACCEPTED DOCUMENTS

-- a linear body has stages, duals and units
record HasStages (F : Cnf) (d : DoneDocument) : Type 0 where
  stages : List Stage
  dual : List Dual
  units : List Unit
  stage_form : list_all (is_stage F.vars) stages ≡ true
  dual_form : are_duals (length F.clauses) dual ≡ true
  sign : (bad_sign F d stages).place ≡ None
  stage : (bad_stage F d stages).place ≡ None
  dual_line : (bad_dual F d dual).place ≡ None
  balance : (bad_balance no_variable F d dual).place ≡ None
  unit : (bad_unit no_variable F d units).place ≡ None

has_stages : (F : Cnf) (d : DoneDocument) (b : Body) → class_of b ≡ class.Linear → is_body F.vars (length F.clauses) b ≡ true
    → HaveNoPlace (class_checks no_variable F d b) → HasStages F d
unfolding is_body
has_stages F d (Pure order pairs) c b h = absurd (let f : ⊥ = cc in f)
has_stages F d (Matching own rows) c b h = absurd (let f : ⊥ = cc in f)
has_stages F d (General rounds) c b h = absurd (let f : ⊥ = cc in f)
has_stages F d (Linear stages dual units) c b h =
    let f = and_true _ (list_all (is_linear_unit (length F.clauses)) units) b in
    let g = and_true _ (rises_within 0 F.vars (map (λ (u : Unit). u.var) units)) f.0 in
    let k = and_true (list_all (is_stage F.vars) stages) (are_duals (length F.clauses) dual) g.0 in
    record {
      stages = stages;
      dual = dual;
      units = units;
      stage_form = k.0;
      dual_form = k.1;
      sign = h.0;
      stage = h.1.0;
      dual_line = h.1.1.0;
      balance = h.1.1.1.0;
      unit = h.1.1.1.1.0;
    }

-- a linear document that no check refuses is a reduction
accepted_reduces : AcceptedReduces class.Linear
accepted_reduces F d form is a =
    let passed = has_passed no_variable F d a.checks in
    let shape = accepted_form no_variable F d a in
    let h = has_stages F d d.body is shape.body passed.by_class in
    reduction_of class.Linear F d is
    (reduces_by class.Linear F d.kept (assignment_of d.set) form shape.kept
    (linear_lean F d h.dual h.units form shape.kept h.dual_form h.dual_line h.balance h.unit)
    (autarky_by_stages F d h.stages shape.set h.stage_form h.sign h.stage) (exactly_removed F d passed.removed))

-- the law
pub linear_law : LinearLaw
linear_law = record { satisfies = linear_is_autarky; lean = linear_lean; autarky = autarky_by_stages; accepted = accepted_reduces }
