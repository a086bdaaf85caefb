use Rattle.std.proofs.Common.{◌≡◌, ◌∙◌, List, ℕ, sym, subst}
use Rattle.lk_model.specs.Formulas.Crossed.{no_variable}
use Rattle.lk_model.specs.Checks.RoundChecks.{bad_step, not_learned}
use Rattle.lean_checker.proofs.OpenFailures.{step_fails, learned_fails}
use Rattle.lean_checker.proofs.unfinished.step_failure.Goals as goal

pub returns-in-Some : goal.returns-in-Some
returns-in-Some g c =
    let F = c.args.f.now in
    let rounds = c.args.rounds.now in
    let part = c.as_slice.ensures ∙ c.in_ok-part.ensures.value in
    let told = subst (λ (ps : List ℕ). c.in_ok-number.field-0 ≡ (bad_step no_variable F ps rounds).place) part c.in_ok-number.ensures in
    step_fails no_variable F rounds c.in-Some.number (sym c.in-Some.is ∙ told)

pub returns-in-Some-2 : goal.returns-in-Some-2
returns-in-Some-2 g c =
    let F = c.args.f.now in
    let rounds = c.args.rounds.now in
    let part = c.as_slice.ensures ∙ c.in_ok-part.ensures.value in
    let told = subst (λ (ps : List ℕ). c.in_ok-number.field-0 ≡ (bad_step no_variable F ps rounds).place) part c.in_ok-number.ensures in
    let part_2 = c.as_slice-2.ensures ∙ c.in_ok-part.ensures.value in
    let told_2 = subst (λ (ps : List ℕ). c.in_ok-number-2.field-0 ≡ (not_learned no_variable F ps rounds).place) part_2 c.in_ok-number-2.ensures in
    learned_fails no_variable F rounds c.in-Some-2.number (sym c.in_default.is ∙ told) (sym c.in-Some-2.is ∙ told_2)
