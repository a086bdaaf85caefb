use Rattle.std.proofs.Common.{rules, subst, List, ℕ, length}
use borrow.Author.Tests.{tests}
use Rattle.check_tables.specs.Occurring.{AreOccurring}
use Rattle.check_rounds.specs.Blocking.{is_unblocked}
use Rattle.check_rounds.proofs.BlockTables.{unblocked_found}
use Rattle.check_tables.proofs.Spans.{place_told}
use Rattle.check_rounds.proofs.blocking.not_blocked.Goals as goal

-- what is found is the first variable that is not blocked by the table
pub returns : goal.returns
returns g c =
    let F = c.args.f.now in
    let d = c.args.d.now in
    let rounds = c.args.rounds.now in
    let occurring = c.in_ok-occurring.occurring in
    let table = c.args.blocks.now in
    let occurring_so = subst (λ (ps : List ℕ). AreOccurring F ps occurring) c.as_slice.ensures c.in_ok-occurring.ensures in
    place_told (is_unblocked (length rounds) occurring table) c.vars.result F.vars c.least_place.result _ c.vars.ensures.value
    (unblocked_found F d rounds occurring table c.vars.ensures.formula occurring_so c.requires.blocks)
    (c.least_place.ensures (is_unblocked (length rounds) occurring table) (λ p b low high told. search (rules, tests)))
