use Rattle.std.proofs.Common.{◌≡◌, ◌∙◌, ℕ, map, sym, subst, true, length}
use Rattle.lk_model.specs.Lists.{rises_within}
use Rattle.lk_model.specs.Formulas.Literal.{variable}
use Rattle.kernel_laws.proofs.Passed.{in_form}
use Rattle.lean_checker.proofs.LinearFailures.{linear_parts, sign_fails, stage_fails, dual_fails, balance_fails, unit_fails}
use Rattle.lean_checker.proofs.checking.linear_failure.Goals as goal

pub bad_sign-requires-clause-set : goal.bad_sign-requires-clause-set
bad_sign-requires-clause-set g c κs within = subst (λ (n : ℕ). rises_within 0 n (map variable c.args.d.now.set) ≡ true) c.requires.sizes.vars (in_form c.args.d.now c.requires.form).set

pub bad_sign-requires-clause-stages : goal.bad_sign-requires-clause-stages
bad_sign-requires-clause-stages g c κs within = (linear_parts c.args.f.now.vars (length c.args.f.now.clauses) c.args.d.now c.args.stages.now c.args.dual.now c.args.units.now c.requires.form c.requires.body c.requires.sizes.vars c.requires.sizes.clauses).stages_are

pub bad_stage-requires-clause-stages : goal.bad_stage-requires-clause-stages
bad_stage-requires-clause-stages g c κs within =
    (linear_parts c.args.f.now.vars (length c.args.f.now.clauses) c.args.d.now c.args.stages.now c.args.dual.now c.args.units.now c.requires.form c.requires.body c.requires.sizes.vars c.requires.sizes.clauses).stages_are

pub bad_dual-requires-clause-kept : goal.bad_dual-requires-clause-kept
bad_dual-requires-clause-kept g c κs within = subst (λ (m : ℕ). rises_within 0 m c.args.d.now.kept ≡ true) c.requires.sizes.clauses (in_form c.args.d.now c.requires.form).kept

pub bad_dual-requires-clause-dual : goal.bad_dual-requires-clause-dual
bad_dual-requires-clause-dual g c κs within = (linear_parts c.args.f.now.vars (length c.args.f.now.clauses) c.args.d.now c.args.stages.now c.args.dual.now c.args.units.now c.requires.form c.requires.body c.requires.sizes.vars c.requires.sizes.clauses).duals_are

pub bad_balance-requires-clause-kept : goal.bad_balance-requires-clause-kept
bad_balance-requires-clause-kept g c κs within = subst (λ (m : ℕ). rises_within 0 m c.args.d.now.kept ≡ true) c.requires.sizes.clauses (in_form c.args.d.now c.requires.form).kept

pub bad_balance-requires-clause-dual : goal.bad_balance-requires-clause-dual
bad_balance-requires-clause-dual g c κs within = (linear_parts c.args.f.now.vars (length c.args.f.now.clauses) c.args.d.now c.args.stages.now c.args.dual.now c.args.units.now c.requires.form c.requires.body c.requires.sizes.vars c.requires.sizes.clauses).duals_are

pub bad_unit-requires-clause-kept : goal.bad_unit-requires-clause-kept
bad_unit-requires-clause-kept g c κs within = subst (λ (m : ℕ). rises_within 0 m c.args.d.now.kept ≡ true) c.requires.sizes.clauses (in_form c.args.d.now c.requires.form).kept

pub bad_unit-requires-clause-rising : goal.bad_unit-requires-clause-rising
bad_unit-requires-clause-rising g c κs within = (linear_parts c.args.f.now.vars (length c.args.f.now.clauses) c.args.d.now c.args.stages.now c.args.dual.now c.args.units.now c.requires.form c.requires.body c.requires.sizes.vars c.requires.sizes.clauses).units_rise

pub bad_unit-requires-clause-units : goal.bad_unit-requires-clause-units
bad_unit-requires-clause-units g c κs within = (linear_parts c.args.f.now.vars (length c.args.f.now.clauses) c.args.d.now c.args.stages.now c.args.dual.now c.args.units.now c.requires.form c.requires.body c.requires.sizes.vars c.requires.sizes.clauses).units_are

pub returns-in-Some : goal.returns-in-Some
returns-in-Some g c = c.failure.ensures ∙ sign_fails c.args.f.now c.args.d.now c.args.stages.now c.args.dual.now c.args.units.now c.in-Some.place (sym c.in-Some.is ∙ c.in_ok-place.ensures)

pub returns-in-Some-2 : goal.returns-in-Some-2
returns-in-Some-2 g c = c.failure-in-Some-2.ensures ∙ stage_fails c.args.f.now c.args.d.now c.args.stages.now c.args.dual.now c.args.units.now c.in-Some-2.place (sym c.in_default.is ∙ c.in_ok-place.ensures) (sym c.in-Some-2.is ∙ c.in_ok-place-2.ensures)

pub returns-in-Some-3 : goal.returns-in-Some-3
returns-in-Some-3 g c = c.failure-in-Some-3.ensures ∙ dual_fails c.args.f.now c.args.d.now c.args.stages.now c.args.dual.now c.args.units.now c.in-Some-3.place (sym c.in_default.is ∙ c.in_ok-place.ensures) (sym c.in_default-2.is ∙ c.in_ok-place-2.ensures) (sym c.in-Some-3.is ∙ c.in_ok-place-3.ensures)

pub returns-in-Some-4 : goal.returns-in-Some-4
returns-in-Some-4 g c = c.failure-in-Some-4.ensures ∙ balance_fails c.args.f.now c.args.d.now c.args.stages.now c.args.dual.now c.args.units.now c.in-Some-4.place (sym c.in_default.is ∙ c.in_ok-place.ensures) (sym c.in_default-2.is ∙ c.in_ok-place-2.ensures) (sym c.in_default-3.is ∙ c.in_ok-place-3.ensures) (sym c.in-Some-4.is ∙ c.in_ok-place-4.ensures)

pub returns-in-Some-5 : goal.returns-in-Some-5
returns-in-Some-5 g c = c.failure-in-Some-5.ensures ∙ unit_fails c.args.f.now c.args.d.now c.args.stages.now c.args.dual.now c.args.units.now c.in-Some-5.place (sym c.in_default.is ∙ c.in_ok-place.ensures) (sym c.in_default-2.is ∙ c.in_ok-place-2.ensures) (sym c.in_default-3.is ∙ c.in_ok-place-3.ensures) (sym c.in_default-4.is ∙ c.in_ok-place-4.ensures) (sym c.in-Some-5.is ∙ c.in_ok-place-5.ensures)
