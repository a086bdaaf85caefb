use Rattle.std.proofs.Common.{ℕ, List, subst, rules}
use borrow.Author.Tests.{tests}
use Rattle.check_tables.specs.Flags.{AreKeptFlags}
use Rattle.check_tables.specs.Occurring.{AreOccurring}
use Rattle.check_linear.specs.Linear.{AreUnitPlaces, is_bad_unit}
use Rattle.check_tables.proofs.Spans.{place_told}
use Rattle.check_linear.proofs.UnitChecks.{unit_found}
use Rattle.check_linear.proofs.units.bad_unit.Goals as goal

-- what is found is the first variable that is bad by the tables
pub returns : goal.returns
returns g c =
    let F = c.args.f.now in
    let d = c.args.d.now in
    let units = c.args.units.now in
    let flags = c.in_ok-kept_flags.field-0.items in
    let occurring = c.in_ok-occurring_at.field-0 in
    let places = c.in_ok-unit_places.field-0.items in
    let kept = c.as_slice-kept.ensures in
    let kept_so = subst (λ (m : ℕ). AreKeptFlags m d.kept flags) c.len.ensures.value (subst (λ (ps : List ℕ). AreKeptFlags c.len.result ps flags) kept c.in_ok-kept_flags.ensures) in
    let occurring_so = subst (λ (ps : List ℕ). AreOccurring F ps occurring) kept c.in_ok-occurring_at.ensures in
    let places_so = subst (λ (n : ℕ). AreUnitPlaces n units places) c.vars-n.ensures.value c.in_ok-unit_places.ensures in
    place_told (is_bad_unit F flags occurring units places) c.vars-n.result F.vars c.least_found.result _ c.vars-n.ensures.value
    (unit_found F d units flags occurring places c.vars-n.ensures.formula kept_so occurring_so c.requires.units places_so)
    (c.least_found.ensures (is_bad_unit F flags occurring units places) (λ span r low high told. search (rules, tests)))
