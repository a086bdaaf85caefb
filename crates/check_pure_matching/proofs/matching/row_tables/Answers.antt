use Rattle.std.proofs.Common.{◌≡◌, ◌∙◌, ℕ, ◌+◌, ◌-◌, ◌<◌, List, length, get_or, drop, max, sym, subst, arith, rules, Some, None}
use Rattle.std.proofs.lemmas.List.{get_or_read, drop_all}
use Rattle.lk_model.specs.declared.document.MatchRow.{MatchRow}
use Rattle.kernel_laws.proofs.FirstTables.{first_none, first_more}
use Rattle.check_pure_matching.specs.Matching.{AreRows, AreFirstRows, AreRankBounds}
use Rattle.check_pure_matching.proofs.MatchingChecks.{row_within, bounds_none, bounds_more}
use Rattle.check_pure_matching.proofs.matching.row_tables.Goals as goal

-- what stands where there is no row
abbrev no_row : MatchRow
no_row = record { var = 0; own = 0; escape = 0; rank = 0 }

pub overflow_sub-own : goal.overflow_sub-own
overflow_sub-own c =
    let inside : c.loop-i.i - 1 < length c.args.lines.now = omega arith in
    (row_within c.args.n c.args.m c.args.lines.now (c.loop-i.i - 1) no_row c.requires inside).own_first

pub overflow_sub-line : goal.overflow_sub-line
overflow_sub-line c =
    let inside : c.loop-i.i - 1 < length c.args.lines.now = omega arith in
    (row_within c.args.n c.args.m c.args.lines.now (c.loop-i.i - 1) no_row c.requires inside).var_first

pub index_mut-requires : goal.index_mut-requires
index_mut-requires c =
    let inside : c.loop-i.i - 1 < length c.args.lines.now = omega arith in
    let row = row_within c.args.n c.args.m c.args.lines.now (c.loop-i.i - 1) no_row c.requires inside in
    omega (arith, row.var_first, row.var_last, c.loop-i.invariant.of_variable.size_is, c.loop-i.of_variable.ok.0)

pub index_mut-requires-in-loop-i : goal.index_mut-requires-in-loop-i
index_mut-requires-in-loop-i c =
    let inside : c.loop-i.i - 1 < length c.args.lines.now = omega arith in
    let row = row_within c.args.n c.args.m c.args.lines.now (c.loop-i.i - 1) no_row c.requires inside in
    omega (arith, row.own_first, row.own_last, c.loop-i.invariant.first.size_is, c.loop-i.first.ok.0)

pub index-requires : goal.index-requires
index-requires c =
    let inside : c.loop-i.i - 1 < length c.args.lines.now = omega arith in
    let row = row_within c.args.n c.args.m c.args.lines.now (c.loop-i.i - 1) no_row c.requires inside in
    omega (arith, row.own_first, row.own_last, c.loop-i.invariant.rank_bound.size_is, c.loop-i.rank_bound.ok.0)

pub index_mut-requires-in-loop-i-2 : goal.index_mut-requires-in-loop-i-2
index_mut-requires-in-loop-i-2 c =
    let inside : c.loop-i.i - 1 < length c.args.lines.now = omega arith in
    let row = row_within c.args.n c.args.m c.args.lines.now (c.loop-i.i - 1) no_row c.requires inside in
    omega (arith, row.own_first, row.own_last, c.loop-i.invariant.rank_bound.size_is, c.loop-i.rank_bound.ok.0)

pub loop-i-preserved : goal.loop-i-preserved
loop-i-preserved c =
    let rows = c.args.lines.now in
    let i = c.loop-i.i - 1 in
    let inside : i < length rows = omega arith in
    let next : c.loop-i.i ≡ i + 1 = omega arith in
    let row = row_within c.args.n c.args.m rows i no_row c.requires inside in
    let own : ℕ = (get_or rows i no_row).own - 1 in
    let within : own < length c.loop-i.rank_bound.items = omega (arith, row.own_first, row.own_last, c.loop-i.invariant.rank_bound.size_is) in
    let before = get_or_read c.loop-i.rank_bound.items own c.index.result.now within c.index.ensures 0 in
    let bound : c.max.result ≡ max (get_or c.loop-i.rank_bound.items own 0) ((get_or rows i no_row).rank + 1) = c.max.ensures ∙ (λ j. max (before j) (c.from.ensures j + 1)) in
    record {
      of_variable = first_more c.args.n (λ (r : MatchRow). r.var) (λ (r : MatchRow). Some r) None None rows i c.loop-i.i no_row c.loop-i.of_variable.items next inside row.var_first row.var_last c.loop-i.invariant.of_variable;
      first = first_more c.args.m (λ (r : MatchRow). r.own) (λ (r : MatchRow). r.var) 0 c.args.n rows i c.loop-i.i no_row c.loop-i.first.items next inside row.own_first row.own_last c.loop-i.invariant.first;
      rank_bound = bounds_more c.args.m rows i c.loop-i.i no_row c.loop-i.rank_bound.items c.max.result next inside row.own_first row.own_last bound c.loop-i.invariant.rank_bound;
    }

pub loop-i-init : goal.loop-i-init
loop-i-init c =
    let m = c.args.m in
    let n = c.args.n in
    let rows = c.args.lines.now in
    let of_variable = c.in_ok-of_variable.of_variable.items in
    let first = c.in_ok-first.first.items in
    let rank_bound = c.in_ok-rank_bound.rank_bound.items in
    let none = sym (drop_all (length rows) rows (omega arith)) in
    record {
      of_variable = subst (λ (rs : List MatchRow). AreRows n rs of_variable) none
          (first_none n (λ (r : MatchRow). r.var) (λ (r : MatchRow). Some r) None None of_variable (c.in_ok-of_variable.ensures.items_if_clones_equal (λ y e. search rules)));
      first = subst (λ (rs : List MatchRow). AreFirstRows m n rs first) none (first_none m (λ (r : MatchRow). r.own) (λ (r : MatchRow). r.var) 0 n first (c.in_ok-first.ensures.items_if_clones_equal (λ y e. e)));
      rank_bound = subst (λ (rs : List MatchRow). AreRankBounds m rs rank_bound) none (bounds_none m rank_bound (c.in_ok-rank_bound.ensures.items_if_clones_equal (λ y e. e)));
    }

pub returns : goal.returns
returns c =
    let m = c.args.m in
    let n = c.args.n in
    let rows = c.args.lines.now in
    let none : c.loop-i.i ≡ 0 = omega (arith, c.loop-i-test.false) in
    record {
      of_variable = subst (λ (k : ℕ). AreRows n (drop k rows) c.loop-i.of_variable.items) none c.loop-i.invariant.of_variable;
      first = subst (λ (k : ℕ). AreFirstRows m n (drop k rows) c.loop-i.first.items) none c.loop-i.invariant.first;
      rank_bound = subst (λ (k : ℕ). AreRankBounds m (drop k rows) c.loop-i.rank_bound.items) none c.loop-i.invariant.rank_bound;
    }
