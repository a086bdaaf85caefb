use Rattle.std.proofs.Common.{rules, length, subst, List, ℕ}
use borrow.Author.Tests.{tests}
use Rattle.check_tables.specs.Flags.{AreKeptFlags}
use Rattle.check_linear.specs.Linear.{AreDuals}
use Rattle.check_places.specs.Places.{is_bad_dual}
use Rattle.check_linear.proofs.DualChecks.{dual_found}
use Rattle.check_tables.proofs.Spans.{place_told}
use Rattle.check_linear.proofs.linear.bad_dual.Goals as goal

-- what is found is the first position that is bad by the flags
pub returns : goal.returns
returns g c =
    let F = c.args.f.now in
    let d = c.args.d.now in
    let dual = c.args.dual.now in
    let kept = c.in_ok-flags.flags.items in
    let table = c.in_ok-duals.duals.items in
    let kept_so = subst (λ (m : ℕ). AreKeptFlags m d.kept kept) c.len-m.ensures.value (subst (λ (ps : List ℕ). AreKeptFlags c.len-m.result ps kept) c.as_slice.ensures c.in_ok-flags.ensures) in
    let duals_so = subst (λ (m : ℕ). AreDuals m dual table) c.len-m.ensures.value c.in_ok-duals.ensures in
    place_told (is_bad_dual kept table) c.len-m.result (length F.clauses) c.least_place.result _ c.len-m.ensures.value
    (dual_found F d dual kept table kept_so duals_so)
    (c.least_place.ensures (is_bad_dual kept table) (λ p b low high told. search (rules, tests)))
