use Rattle.std.proofs.Common.{◌∙◌, ap, rules, length, subst, List, ℕ, ℤ}
use borrow.Author.Tests.{tests}
use Rattle.lk_model.specs.Formulas.Formula.{clause_at}
use Rattle.lk_model.specs.Formulas.Assignment.{assignment_of}
use Rattle.lk_model.specs.Held.PartialValues.{assignment_by}
use Rattle.check_tables.specs.Flags.{AreKeptFlags}
use Rattle.check_pure_matching.specs.Matching.{AreOwners, AreFirstOwners}
use Rattle.check_places.specs.Places.{is_bad_owner}
use Rattle.check_pure_matching.proofs.MatchingChecks.{AreOwnerTables, owner_found}
use Rattle.check_tables.proofs.Spans.{place_told}
use Rattle.check_pure_matching.proofs.matching.bad_owner.Goals as goal

-- what is found is the first position that is bad by the tables
pub returns : goal.returns
returns g c =
    let F = c.args.f.now in
    let d = c.args.d.now in
    let own = c.args.own.now in
    let φ = assignment_by c.in_ok-values.values in
    let kept = c.in_ok-flags.flags.items in
    let owners = c.in_ok-owners.owners.of_position.items in
    let first = c.in_ok-owners.owners.first.items in
    let tables : AreOwnerTables F d own φ kept owners first = record {
      values = c.in_ok-values.ensures.values ∙ ap (λ (ls : List ℤ). assignment_of ls) c.as_slice.ensures;
      kept_so = subst (λ (m : ℕ). AreKeptFlags m d.kept kept) c.len-m.ensures.value (subst (λ (ps : List ℕ). AreKeptFlags c.len-m.result ps kept) c.as_slice-2.ensures c.in_ok-flags.ensures);
      owners_so = subst (λ (m : ℕ). AreOwners m own owners) c.len-m.ensures.value c.in_ok-owners.ensures.of_position;
      first_so = subst (λ (m : ℕ). AreFirstOwners F.vars m own first) c.len-m.ensures.value (subst (λ (n : ℕ). AreFirstOwners n c.len-m.result own first) c.vars-n.ensures.value c.in_ok-owners.ensures.first);
    } in
    place_told (λ p. is_bad_owner φ kept owners first p (clause_at F p)) c.len-m.result (length F.clauses) c.least_place.result _ c.len-m.ensures.value
    (owner_found F d own φ kept owners first tables c.requires.own)
    (c.least_place.ensures (λ p. is_bad_owner φ kept owners first p (clause_at F p)) (λ p b low high told. search (rules, tests)))
