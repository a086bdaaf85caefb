use Rattle.std.proofs.Common.{◌∙◌, ap, rules, subst, List, ℕ, ℤ}
use borrow.Author.Tests.{tests}
use Rattle.lk_model.specs.Formulas.Assignment.{assignment_of}
use Rattle.check_linear.specs.Linear.{AreFirsts, is_bad_sign}
use Rattle.check_linear.proofs.StageChecks.{sign_found}
use Rattle.check_tables.proofs.Spans.{place_told}
use Rattle.check_linear.proofs.linear.bad_sign.Goals as goal

-- what is found is the first variable with another sign than its first weight
pub returns : goal.returns
returns g c =
    let F = c.args.f.now in
    let d = c.args.d.now in
    let stages = c.args.stages.now in
    let values = c.in_ok-values.values in
    let places = c.in_ok-firsts.firsts.places.items in
    let weights = c.in_ok-firsts.firsts.weights.items in
    let same = c.in_ok-values.ensures.values ∙ ap (λ (ls : List ℤ). assignment_of ls) c.as_slice.ensures in
    let firsts = subst (λ (n : ℕ). AreFirsts n 0 stages places weights) c.vars-n.ensures.value c.in_ok-firsts.ensures.firsts in
    place_told (is_bad_sign values weights) c.vars-n.result F.vars c.least_place.result _ c.vars-n.ensures.value
    (sign_found F d stages values places weights same firsts)
    (c.least_place.ensures (is_bad_sign values weights) (λ p b low high told. search (rules, tests)))
