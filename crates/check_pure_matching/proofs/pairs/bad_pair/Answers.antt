use Rattle.std.proofs.Common.{rules, subst, List, ℕ}
use borrow.Author.Tests.{tests}
use Rattle.check_tables.specs.Occurring.{AreOccurring}
use Rattle.check_pure_matching.specs.Pairs.{is_bad_at, AreNamed, AreShown}
use Rattle.check_pure_matching.proofs.PairTables.{AreTables, bad_found}
use Rattle.check_tables.proofs.Spans.{place_told}
use Rattle.check_pure_matching.proofs.pairs.bad_pair.Goals as goal

-- what is found is the first variable that is bad by the tables
pub returns : goal.returns
returns g c =
    let F = c.args.f.now in
    let named = c.in_ok-named.named in
    let occurring = c.in_ok-seen.seen.occurring in
    let shown = c.in_ok-seen.seen.shown in
    let kept = c.as_slice.ensures in
    let tables : AreTables F c.args.d.now.kept c.args.pairs.now named occurring shown = record {
      named_so = subst (λ (n : ℕ). AreNamed n c.args.pairs.now named) c.vars.ensures.value c.in_ok-named.ensures;
      occurring_so = subst (λ (ps : List ℕ). AreOccurring F ps occurring) kept c.in_ok-seen.ensures.occurring;
      shown_so = subst (λ (ps : List ℕ). AreShown F ps named shown) kept c.in_ok-seen.ensures.shown;
    } in
    place_told (is_bad_at named occurring shown) c.vars-2.result F.vars c.least_place.result _ c.vars-2.ensures.value
    (bad_found F c.args.d.now c.args.pairs.now named occurring shown tables c.requires.pairs)
    (c.least_place.ensures (is_bad_at named occurring shown) (λ p b low high told. search (rules, tests)))
