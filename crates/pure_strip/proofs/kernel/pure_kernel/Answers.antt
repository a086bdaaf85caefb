use Rattle.std.proofs.Common.{◌∙◌, List, Bool, ℕ, length, [], sym, ap, subst, true, IsTrue}
use Rattle.std.specs.Prelude.{replicate, filter}
use Rattle.lk_model.specs.Formulas.Lean.{are_positions}
use Rattle.lk_model.specs.Lists.{up_to}
use Rattle.lk_model.specs.Formulas.Formula.{positions_of}
use Rattle.lk_model.specs.Formulas.Assignment.{assignment_of}
use Rattle.lk_model.specs.Formulas.Crossed.{no_variable}
use Rattle.lk_model.specs.Formulas.PureRun.{least_pure}
use Rattle.lk_model.specs.Formulas.Protected.{ReducesBy}
use Rattle.lk_model.specs.declared.class.Class.TheVariants.{Pure}
use Rattle.pure_strip.specs.Live.{is_live}
use Rattle.pure_strip.proofs.Starts.{kept_is}
use Rattle.pure_strip.proofs.Runs.{live_is_untouched}
use Rattle.pure_laws.proofs.PureLaws.{pure_law}
use Rattle.pure_laws.proofs.Runs.{run_leaves, untouched_rise}
use Rattle.pure_strip.proofs.kernel.pure_kernel.Goals as goal

pub pure_order-requires-clause-live : goal.pure_order-requires-clause-live
pure_order-requires-clause-live c = c.in_ok-live.ensures.items_if_clones_equal (λ y e. e) ∙ ap (λ (m : ℕ). replicate m true) c.len.ensures.value

pub pairs_of-requires-clause-lean : goal.pairs_of-requires-clause-lean
pairs_of-requires-clause-lean c =
    let live = c.as_slice-2.ensures.value in
    ap (λ (s : List Bool). least_pure c.args.f.now (filter (is_live s) (positions_of c.args.f.now))) live
    ∙ ap (least_pure c.args.f.now) (live_is_untouched c.args.f.now c.in_ok-order.order _ c.in_ok-order.ensures.untouched)
    ∙ run_leaves c.args.f.now [] c.in_ok-order.order c.in_ok-order.ensures.run

pub returns-clause-kept : goal.returns-clause-kept
returns-clause-kept c =
    c.in_ok-kept.ensures ∙ ap (λ (s : List Bool). filter (is_live s) (up_to (length s))) c.as_slice.ensures.value
    ∙ kept_is c.args.f.now c.in_ok-order.order _ c.in_ok-order.ensures.untouched

pub returns-clause-positions : goal.returns-clause-positions
returns-clause-positions c =
    subst (λ (ps : List ℕ). IsTrue (are_positions c.args.f.now ps))
    (sym (c.in_ok-kept.ensures ∙ ap (λ (s : List Bool). filter (is_live s) (up_to (length s))) c.as_slice.ensures.value ∙ kept_is c.args.f.now c.in_ok-order.order _ c.in_ok-order.ensures.untouched))
    (untouched_rise c.args.f.now c.in_ok-order.order)

pub returns-clause-kernel : goal.returns-clause-kernel
returns-clause-kernel c =
    subst (λ (ps : List ℕ). ReducesBy no_variable Pure c.args.f.now ps (assignment_of c.in_ok-order.order))
    (sym (c.in_ok-kept.ensures ∙ ap (λ (s : List Bool). filter (is_live s) (up_to (length s))) c.as_slice.ensures.value
    ∙ kept_is c.args.f.now c.in_ok-order.order _ c.in_ok-order.ensures.untouched))
    (pure_law.run c.args.f.now c.in_ok-order.order c.len.ensures.formula c.in_ok-order.ensures.run)
