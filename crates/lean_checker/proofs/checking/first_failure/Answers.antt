use Rattle.std.proofs.Common.{◌≡◌, ◌∙◌, ℕ, Option, sym, ap, subst, true}
use Rattle.std.specs.Prelude.{unwrap_or}
use Rattle.std.proofs.lemmas.Result.{IfOk-weaker}
use Rattle.lk_model.specs.Formulas.Formula.{Cnf}
use Rattle.lk_model.specs.Formulas.Crossed.{formula_without, no_variable, protected_by}
use Rattle.lk_model.specs.Documents.Form.{is_protect_line}
use Rattle.lk_model.specs.Checks.Check.{first_of}
use Rattle.lk_model.specs.Checks.Checks.{class_checks}
use Rattle.kernel_laws.proofs.Passed.{in_form}
use Rattle.lean_checker.proofs.FirstFailures.{common_found}
use Rattle.lean_checker.proofs.ProtectedChecks.{found_without}
use Rattle.lean_checker.proofs.checking.first_failure.Goals as goal

pub returns-in-Some-clause-first : goal.returns-in-Some-clause-first
returns-in-Some-clause-first g c = common_found c.args.f.now c.args.d.now c.in-Some.why (sym c.in-Some.is ∙ c.in_ok-why.ensures.first)

pub without_protected-requires : goal.without_protected-requires
without_protected-requires g c =
    subst (λ (n : ℕ). is_protect_line n c.args.d.now.protect ≡ true) (c.in_ok-why.ensures.sizes c.in_default.is).vars (in_form c.args.d.now c.requires.form).protect

pub returns-in-Some-2-clause-first : goal.returns-in-Some-2-clause-first
returns-in-Some-2-clause-first g c =
    let F = c.args.f.now in
    let d = c.args.d.now in
    let none = sym c.in_default.is ∙ c.in_ok-why.ensures.first in
    let is : c.in-Some-2.rest ≡ formula_without F (protected_by d.protect) = ap (λ (o : Option Cnf). unwrap_or o F) (sym c.in-Some-2.is) ∙ c.in_ok-rest.ensures in
    IfOk-weaker c.class_failure.result (λ why. why ≡ first_of (class_checks no_variable c.in-Some-2.rest d d.body)) _
    (λ why found. found_without F d why c.requires.form (c.in_ok-why.ensures.sizes c.in_default.is) none (found ∙ ap (λ (G : Cnf). first_of (class_checks no_variable G d d.body)) is))
    c.class_failure.ensures

pub returns-in-None-clause-first : goal.returns-in-None-clause-first
returns-in-None-clause-first g c =
    let F = c.args.f.now in
    let d = c.args.d.now in
    let none = sym c.in_default.is ∙ c.in_ok-why.ensures.first in
    let is : F ≡ formula_without F (protected_by d.protect) = ap (λ (o : Option Cnf). unwrap_or o F) (sym c.in-None.is) ∙ c.in_ok-rest.ensures in
    IfOk-weaker c.class_failure-in-None.result (λ why. why ≡ first_of (class_checks no_variable F d d.body)) _
    (λ why found. found_without F d why c.requires.form (c.in_ok-why.ensures.sizes c.in_default.is) none (found ∙ ap (λ (G : Cnf). first_of (class_checks no_variable G d d.body)) is))
    c.class_failure-in-None.ensures
