use Rattle.std.proofs.Common.{◌≡◌, ◌∙◌, ℕ, sym, ap, subst, true}
use Rattle.lk_model.specs.Lists.{rises_within}
use Rattle.lk_model.specs.Formulas.Crossed.{protected_by}
use Rattle.lk_model.specs.Formulas.Assignment.{Assignment, first_unsatisfied}
use Rattle.lk_model.specs.Documents.Form.{is_protect_line}
use Rattle.kernel_laws.proofs.Passed.{in_form}
use Rattle.lean_checker.proofs.Sizes.{has_sizes}
use Rattle.lean_checker.proofs.FirstFailures.{first_fails, lines_match, others_first, unsatisfied_is}
use Rattle.lean_checker.proofs.checking.common_failure.Goals as goal

pub returns-in-Some-clause-first : goal.returns-in-Some-clause-first
returns-in-Some-clause-first g c = c.failure.ensures ∙ first_fails (protected_by c.args.d.now.protect) c.args.f.now c.args.d.now c.in-Some.place c.in-Some.ensures.place

pub marks_of-requires-clause-sizes : goal.marks_of-requires-clause-sizes
marks_of-requires-clause-sizes g c = has_sizes c.args.f.now c.args.d.now (sym c.in_default.ensures.place)

pub kept_clause-requires-clause-positions : goal.kept_clause-requires-clause-positions
kept_clause-requires-clause-positions g c κs within =
    let sizes = has_sizes c.args.f.now c.args.d.now (sym c.in_default.ensures.place) in
    subst (λ (m : ℕ). rises_within 0 m c.args.d.now.kept ≡ true) sizes.clauses (in_form c.args.d.now c.requires).kept

pub kept_clause-requires-clause-lines : goal.kept_clause-requires-clause-lines
kept_clause-requires-clause-lines g c κs within = lines_match c.args.d.now c.requires

pub protected_set-requires-clause-line : goal.protected_set-requires-clause-line
protected_set-requires-clause-line g c =
    let sizes = has_sizes c.args.f.now c.args.d.now (sym c.in_default.ensures.place) in
    rw c.in_ok-marks.ensures.vars (subst (λ (n : ℕ). is_protect_line n c.args.d.now.protect ≡ true) sizes.vars (in_form c.args.d.now c.requires).protect)

pub returns-clause-first : goal.returns-clause-first
returns-clause-first g c =
    let F = c.args.f.now in
    let d = c.args.d.now in
    let unsatisfied = c.in_ok-not_autarky.ensures ∙ ap (λ (φ : Assignment). first_unsatisfied φ F) c.in_ok-marks.ensures.values ∙ unsatisfied_is F d in
    c.first_common.ensures
    ∙ others_first (protected_by d.protect) F d _ _ _ _ c.in_default.ensures.place c.in_ok-kept_clause.ensures (c.protected_set.ensures F (sym c.in_ok-marks.ensures.vars)) unsatisfied c.in_ok-not_exactly_removed.ensures

pub returns-clause-sizes : goal.returns-clause-sizes
returns-clause-sizes g c = λ _. has_sizes c.args.f.now c.args.d.now (sym c.in_default.ensures.place)
