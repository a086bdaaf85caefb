-- A pure run leaves the kernel, and a pure document that the checks accept is a reduction of the formula.
use Rattle.std.proofs.Common.{◌≡◌, true, List, [], ℤ, None}
use Rattle.lk_model.specs.declared.class.Class.TheVariants as class
use Rattle.lk_model.specs.Formulas.Formula.{Cnf, is_formula}
use Rattle.lk_model.specs.Formulas.Crossed.{no_variable}
use Rattle.lk_model.specs.Formulas.Assignment.{assignment_of}
use Rattle.lk_model.specs.Formulas.PureRun.{IsPureRun, untouched}
use Rattle.lk_model.specs.Documents.Documents.{class_of}
use Rattle.lk_model.specs.Checks.PureChecks.{bad_order, bad_pair}
use Rattle.lk_model.specs.Checks.Checks.{class_checks}
use Rattle.lk_model.specs.Formulas.Protected.{ReducesBy}
use Rattle.lk_model.specs.declared.document.Body.{Body}
use Rattle.lk_model.specs.declared.document.Body.TheVariants.{Pure, Matching, Linear, General}
use Rattle.lk_model.specs.declared.document.DoneDocument.{DoneDocument}
use Rattle.lk_model.specs.declared.document.Pair.{Pair}
use Rattle.kernel_laws.specs.Accepted.{AcceptedReduces}
use Rattle.kernel_laws.proofs.Passed.{HaveNoPlace, has_passed, accepted_form, exactly_removed}
use Rattle.kernel_laws.proofs.Reductions.{reduces_by, reduction_of}
use Rattle.pure_laws.specs.PureLaw.{PureLaw}
use Rattle.pure_laws.proofs.Runs.{touched_is, untouched_rise, run_leaves, run_autarky}
use Rattle.pure_laws.proofs.Orders.{order_by_check, order_passes, order_autarky}
use Rattle.pure_laws.proofs.Pairs.{signs_lean, lean_rest, pairs_lean}

-- the run leaves the kernel
pub run_reduces : (F : Cnf) (order : List ℤ) → is_formula F ≡ true → IsPureRun F order → ReducesBy no_variable class.Pure F (untouched F order) (assignment_of order)
run_reduces F order form run =
    reduces_by class.Pure F (untouched F order) (assignment_of order) form (untouched_rise F order)
    (lean_rest F (untouched F order) form (run_leaves F [] order run)) (run_autarky F order run) (touched_is F order)

-- a pure body has an order and pairs
record HasOrder (F : Cnf) (d : DoneDocument) : Type 0 where
  order : List ℤ
  pairs : List Pair
  good_order : (bad_order F d order).place ≡ None
  good_pairs : (bad_pair no_variable F d pairs).place ≡ None

has_order : (F : Cnf) (d : DoneDocument) (b : Body) → class_of b ≡ class.Pure → HaveNoPlace (class_checks no_variable F d b) → HasOrder F d
has_order F d (Pure order pairs) c h = record { order = order; pairs = pairs; good_order = h.0; good_pairs = h.1.0 }
has_order F d (Matching own rows) c h = absurd (let f : ⊥ = cc in f)
has_order F d (Linear stages dual units) c h = absurd (let f : ⊥ = cc in f)
has_order F d (General rounds) c h = absurd (let f : ⊥ = cc in f)

-- a pure document that no check refuses is a reduction
accepted_reduces : AcceptedReduces class.Pure
accepted_reduces F d form is a =
    let passed = has_passed no_variable F d a.checks in
    let shape = accepted_form no_variable F d a in
    let h = has_order F d d.body is passed.by_class in
    reduction_of class.Pure F d is
    (reduces_by class.Pure F d.kept (assignment_of d.set) form shape.kept (pairs_lean F d h.pairs form h.good_pairs)
    (order_autarky F F.vars d.set h.order shape.set (order_by_check F d h.order h.good_order)) (exactly_removed F d passed.removed))

-- all of it
pub pure_law : PureLaw
pure_law = record {
  signs = signs_lean;
  run = run_reduces;
  lean = pairs_lean;
  order = λ F d order. (order_by_check F d order, order_passes F d order);
  autarky = λ F d order up none. order_autarky F F.vars d.set order up (order_by_check F d order none);
  accepted = accepted_reduces;
}
