use Rattle.std.proofs.Common.{◌≡◌, ◌∙◌, ℕ, List, sym, subst, true, length}
use Rattle.lk_model.specs.Lists.{rises_within}
use Rattle.lk_model.specs.Checks.RoundChecks.{bad_step}
use Rattle.lk_model.specs.Formulas.Crossed.{no_variable}
use Rattle.kernel_laws.proofs.Passed.{in_form}
use Rattle.lean_checker.proofs.GeneralFailures.{step_fails, blocked_fails, general_steps}
use Rattle.lean_checker.proofs.general.general_failure.Goals as goal

pub blocks_of-requires : goal.blocks_of-requires
blocks_of-requires g c = general_steps c.args.f.now.vars (length c.args.f.now.clauses) c.args.d.now c.args.rounds.now c.requires.form c.requires.body c.requires.sizes.vars c.requires.sizes.clauses

pub bad_step-requires-clause-part : goal.bad_step-requires-clause-part
bad_step-requires-clause-part g c κs within =
    subst (λ (ps : List ℕ). rises_within 0 (length c.args.f.now.clauses) ps ≡ true) (sym c.as_slice.ensures)
    (subst (λ (m : ℕ). rises_within 0 m c.args.d.now.kept ≡ true) c.requires.sizes.clauses (in_form c.args.d.now c.requires.form).kept)

pub bad_step-requires-clause-steps : goal.bad_step-requires-clause-steps
bad_step-requires-clause-steps g c κs within = general_steps c.args.f.now.vars (length c.args.f.now.clauses) c.args.d.now c.args.rounds.now c.requires.form c.requires.body c.requires.sizes.vars c.requires.sizes.clauses

pub returns-in-Some : goal.returns-in-Some
returns-in-Some g c =
    step_fails c.args.f.now c.args.d.now c.args.rounds.now c.in-Some.number
    (sym c.in-Some.is ∙ subst (λ (ps : List ℕ). c.in_ok-number.field-0 ≡ (bad_step no_variable c.args.f.now ps c.args.rounds.now).place) c.as_slice.ensures c.in_ok-number.ensures)

pub not_blocked-requires-clause-kept : goal.not_blocked-requires-clause-kept
not_blocked-requires-clause-kept g c κs within = subst (λ (m : ℕ). rises_within 0 m c.args.d.now.kept ≡ true) c.requires.sizes.clauses (in_form c.args.d.now c.requires.form).kept

pub returns-in-Some-2 : goal.returns-in-Some-2
returns-in-Some-2 g c =
    c.failure.ensures ∙ blocked_fails c.args.f.now c.args.d.now c.args.rounds.now c.in-Some-2.variable
    (sym c.in_default.is ∙ subst (λ (ps : List ℕ). c.in_ok-number.field-0 ≡ (bad_step no_variable c.args.f.now ps c.args.rounds.now).place) c.as_slice.ensures c.in_ok-number.ensures)
    (sym c.in-Some-2.is ∙ c.in_ok-variable.ensures)
