use Rattle.std.proofs.Common.{rules, length}
use borrow.Author.Tests.{tests}
use Rattle.lk_model.specs.Formulas.Formula.{clause_at}
use Rattle.lk_model.specs.Held.PartialValues.{assignment_by}
use Rattle.check_tables.specs.Flags.{is_flagged}
use Rattle.check_places.specs.Places.{is_misplaced}
use Rattle.lean_checker.proofs.Removals.{misplaced_found}
use Rattle.check_tables.proofs.Spans.{place_told}
use Rattle.lean_checker.proofs.shared.not_exactly_removed.Goals as goal

-- what is found is the first position that is misplaced by the flags
pub returns : goal.returns
returns g c =
    let φ = assignment_by c.args.values.now in
    let F = c.args.f.now in
    let flags = c.args.flags.now in
    place_told (λ p. is_misplaced φ (is_flagged flags p) (clause_at F p)) c.len.result (length F.clauses) c.least_place.result _ c.len.ensures.value
    (misplaced_found F c.args.d.now φ flags c.requires.values c.requires.flags)
    (c.least_place.ensures (λ p. is_misplaced φ (is_flagged flags p) (clause_at F p)) (λ p b low high told. search (rules, tests)))
