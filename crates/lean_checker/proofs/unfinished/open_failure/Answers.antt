use Rattle.std.proofs.Common.{◌≡◌, ◌∙◌, List, ℕ, Option, true, sym, ap, subst}
use Rattle.std.specs.Prelude.{unwrap_or}
use Rattle.std.specs.List.{list_all}
use Rattle.std.proofs.lemmas.Result.{IfOk-weaker}
use Rattle.lk_model.specs.Formulas.Formula.{Cnf}
use Rattle.lk_model.specs.Formulas.Crossed.{formula_without, no_variable, protected_by}
use Rattle.lk_model.specs.Documents.Form.{is_protect_line}
use Rattle.lk_model.specs.Checks.Check.{first_of}
use Rattle.lk_model.specs.declared.document.Round.{Round}
use Rattle.check_rounds.specs.Learned.{are_open_but_last}
use Rattle.lean_checker.specs.Unfinished.{step_checks}
use Rattle.lean_checker.proofs.OpenFailures.{text_found, steps_found, open_form, rounds_open, steps_in_form}
use Rattle.lean_checker.proofs.unfinished.open_failure.Goals as goal

pub returns-in-Some : goal.returns-in-Some
returns-in-Some g c = text_found c.args.f.now c.args.d.now c.in-Some.why (sym c.in-Some.is ∙ c.in_ok-why.ensures.first)

pub without_protected-requires : goal.without_protected-requires
without_protected-requires g c =
    let d = c.args.d.now in
    subst (λ (n : ℕ). is_protect_line n d.protect ≡ true) (c.in_ok-why.ensures.sizes c.in_default.is).vars (open_form d c.requires.form).protect

-- what the rounds are in form for
open_rounds : (rounds given : List Round) → given ≡ rounds → list_all (λ (r : Round). are_open_but_last r.steps) rounds ≡ true → list_all (λ (r : Round). are_open_but_last r.steps) given ≡ true
open_rounds rounds given is all = subst (λ (rs : List Round). list_all (λ (r : Round). are_open_but_last r.steps) rs ≡ true) (sym is) all

pub step_failure-requires-clause-steps : goal.step_failure-requires-clause-steps
step_failure-requires-clause-steps g c κs within =
    let F = c.args.f.now in
    let d = c.args.d.now in
    let is : c.in-Some-2.rest ≡ formula_without F (protected_by d.protect) = ap (λ (o : Option Cnf). unwrap_or o F) (sym c.in-Some-2.is) ∙ c.in_ok-rest.ensures in
    steps_in_form F c.in-Some-2.rest d c.as_slice.result.now c.requires.form (c.in_ok-why.ensures.sizes c.in_default.is) is c.as_slice.ensures

pub step_failure-requires-clause-rounds : goal.step_failure-requires-clause-rounds
step_failure-requires-clause-rounds g c κs within =
    open_rounds c.args.d.now.rounds c.as_slice.result.now c.as_slice.ensures (rounds_open c.args.d.now.rounds (open_form c.args.d.now c.requires.form).rounds)

pub step_failure-requires-in-None-clause-steps : goal.step_failure-requires-in-None-clause-steps
step_failure-requires-in-None-clause-steps g c κs within =
    let F = c.args.f.now in
    let d = c.args.d.now in
    let is : F ≡ formula_without F (protected_by d.protect) = ap (λ (o : Option Cnf). unwrap_or o F) (sym c.in-None.is) ∙ c.in_ok-rest.ensures in
    steps_in_form F F d c.as_slice-in-None.result.now c.requires.form (c.in_ok-why.ensures.sizes c.in_default.is) is c.as_slice-in-None.ensures

pub step_failure-requires-in-None-clause-rounds : goal.step_failure-requires-in-None-clause-rounds
step_failure-requires-in-None-clause-rounds g c κs within =
    open_rounds c.args.d.now.rounds c.as_slice-in-None.result.now c.as_slice-in-None.ensures (rounds_open c.args.d.now.rounds (open_form c.args.d.now c.requires.form).rounds)

pub returns-in-Some-2 : goal.returns-in-Some-2
returns-in-Some-2 g c =
    let F = c.args.f.now in
    let d = c.args.d.now in
    let none = sym c.in_default.is ∙ c.in_ok-why.ensures.first in
    let is : c.in-Some-2.rest ≡ formula_without F (protected_by d.protect) = ap (λ (o : Option Cnf). unwrap_or o F) (sym c.in-Some-2.is) ∙ c.in_ok-rest.ensures in
    IfOk-weaker c.step_failure.result (λ why. why ≡ first_of (step_checks no_variable c.in-Some-2.rest c.as_slice.result.now)) _
    (λ why found. steps_found F c.in-Some-2.rest d c.as_slice.result.now why none is c.as_slice.ensures found) c.step_failure.ensures

pub returns-in-None : goal.returns-in-None
returns-in-None g c =
    let F = c.args.f.now in
    let d = c.args.d.now in
    let none = sym c.in_default.is ∙ c.in_ok-why.ensures.first in
    let is : F ≡ formula_without F (protected_by d.protect) = ap (λ (o : Option Cnf). unwrap_or o F) (sym c.in-None.is) ∙ c.in_ok-rest.ensures in
    IfOk-weaker c.step_failure-in-None.result (λ why. why ≡ first_of (step_checks no_variable F c.as_slice-in-None.result.now)) _
    (λ why found. steps_found F F d c.as_slice-in-None.result.now why none is c.as_slice-in-None.ensures found) c.step_failure-in-None.ensures
