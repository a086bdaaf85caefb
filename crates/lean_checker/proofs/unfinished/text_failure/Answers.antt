use Rattle.std.proofs.Common.{◌≡◌, ◌∙◌, ◌==◌, List, true, false, length, ap, sym}
use Rattle.lk_model.specs.Checks.RoundChecks.{learned_steps}
use Rattle.lk_model.specs.declared.document.Round.{Round}
use Rattle.kernel_laws.proofs.Passed.{same_numbers}
use Rattle.lean_checker.proofs.OpenFailures.{formula_fails, clause_is, clause_fails, count_fails, none_of_text, open_form}
use Rattle.lean_checker.proofs.unfinished.text_failure.Goals as goal

pub returns-in-Some-clause-first : goal.returns-in-Some-clause-first
returns-in-Some-clause-first g c = c.failure.ensures ∙ formula_fails c.args.f.now c.args.d.now c.in-Some.place (sym c.in-Some.is ∙ c.other_formula.ensures.place)

pub every_clause-requires-after_bounds : goal.every_clause-requires-after_bounds
every_clause-requires-after_bounds g c κs within =
    let same = same_numbers c.args.f.now c.args.d.now.vars c.args.d.now.clauses (sym c.other_formula.ensures.place ∙ c.in_default.is) in
    (open_form c.args.d.now c.requires).lines ∙ same.1

pub returns-in-Some-2-clause-first : goal.returns-in-Some-2-clause-first
returns-in-Some-2-clause-first g c =
    c.failure-in-Some-2.ensures
    ∙ clause_fails c.args.f.now c.args.d.now c.in-Some-2.place (sym c.in_default.is ∙ c.other_formula.ensures.place)
    (sym c.in-Some-2.is ∙ c.in_ok-place.ensures ∙ clause_is c.args.f.now c.args.d.now)

pub returns-then-not-has_learned-clause-first : goal.returns-then-not-has_learned-clause-first
returns-then-not-has_learned-clause-first g c =
    let d = c.args.d.now in
    let other : (length (learned_steps d.rounds) == d.learned) ≡ false = ap (λ (rs : List Round). length (learned_steps rs) == d.learned) (sym c.as_slice.ensures) ∙ sym c.if-not-has_learned.ensures in
    c.failure-then-not-has_learned.ensures
    ∙ count_fails c.args.f.now d (sym c.in_default.is ∙ c.other_formula.ensures.place) (sym c.in_default-2.is ∙ c.in_ok-place.ensures ∙ clause_is c.args.f.now d) other

pub returns-clause-first : goal.returns-clause-first
returns-clause-first g c =
    let d = c.args.d.now in
    let same : (length (learned_steps d.rounds) == d.learned) ≡ true = ap (λ (rs : List Round). length (learned_steps rs) == d.learned) (sym c.as_slice.ensures) ∙ sym c.if-not-has_learned.ensures in
    none_of_text c.args.f.now d (sym c.in_default.is ∙ c.other_formula.ensures.place) (sym c.in_default-2.is ∙ c.in_ok-place.ensures ∙ clause_is c.args.f.now d) same

pub returns-clause-sizes : goal.returns-clause-sizes
returns-clause-sizes g c e =
    let same = same_numbers c.args.f.now c.args.d.now.vars c.args.d.now.clauses (sym c.other_formula.ensures.place ∙ c.in_default.is) in
    record { vars = same.0; clauses = same.1 }
