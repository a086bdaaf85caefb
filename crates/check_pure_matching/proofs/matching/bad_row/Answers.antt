use Rattle.std.proofs.Common.{rules, subst, List, ℕ, Option}
use borrow.Author.Tests.{tests}
use Rattle.lk_model.specs.declared.document.MatchRow.{MatchRow}
use Rattle.check_tables.specs.Occurring.{AreOccurring}
use Rattle.check_pure_matching.specs.Matching.{AreRows, AreFirstRows, AreRankBounds, AreNamedThere, has_own, has_escape, is_bad_row}
use Rattle.check_pure_matching.proofs.MatchingChecks.{AreRowTables, row_found}
use Rattle.check_tables.proofs.Spans.{place_told}
use Rattle.check_pure_matching.proofs.matching.bad_row.Goals as goal

-- what is found is the first variable that is bad by the tables
pub returns : goal.returns
returns g c =
    let F = c.args.f.now in
    let d = c.args.d.now in
    let rows = c.args.rows.now in
    let table = c.in_ok-tables.tables.of_variable.items in
    let first = c.in_ok-tables.tables.first.items in
    let bounds = c.in_ok-tables.tables.rank_bound.items in
    let occurring = c.in_ok-seen.seen.occurring in
    let own = c.in_ok-seen.seen.own in
    let escape = c.in_ok-seen.seen.escape in
    let tables : AreRowTables F d.kept rows table first bounds occurring own escape = record {
      table_so = subst (λ (n : ℕ). AreRows n rows table) c.vars-n.ensures.value c.in_ok-tables.ensures.of_variable;
      first_so = subst (λ (m : ℕ). AreFirstRows m F.vars rows first) c.len-m.ensures.value (subst (λ (n : ℕ). AreFirstRows c.len-m.result n rows first) c.vars-n.ensures.value c.in_ok-tables.ensures.first);
      bounds_so = subst (λ (m : ℕ). AreRankBounds m rows bounds) c.len-m.ensures.value c.in_ok-tables.ensures.rank_bound;
      occurring_so = subst (λ (ps : List ℕ). AreOccurring F ps occurring) c.as_slice.ensures c.in_ok-seen.ensures.occurring;
      own_so = subst (λ (ps : List ℕ). AreNamedThere F ps table has_own own) c.as_slice.ensures
          (subst (λ (t : List (Option MatchRow)). AreNamedThere F c.as_slice.result.now t has_own own) c.as_slice-2.ensures.value c.in_ok-seen.ensures.own);
      escape_so = subst (λ (ps : List ℕ). AreNamedThere F ps table has_escape escape) c.as_slice.ensures
          (subst (λ (t : List (Option MatchRow)). AreNamedThere F c.as_slice.result.now t has_escape escape) c.as_slice-2.ensures.value c.in_ok-seen.ensures.escape);
    } in
    place_told (is_bad_row table first bounds occurring own escape) c.vars-n.result F.vars c.least_place.result _ c.vars-n.ensures.value
    (row_found F d rows table first bounds occurring own escape tables c.requires.rows)
    (c.least_place.ensures (is_bad_row table first bounds occurring own escape) (λ p b low high told. search (rules, tests)))
