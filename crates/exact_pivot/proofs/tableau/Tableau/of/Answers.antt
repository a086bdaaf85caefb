use Rattle.std.proofs.Common.{◌≡◌, ℕ, ◌+◌, ◌≤◌, List, map, length, arith, ◌++◌, subst, sym, ap, ◌∙◌}
use Rattle.std.specs.List.{All}
use Rattle.lk_model.specs.Linear.Rows.{Row, sign_of}
use Rattle.lk_model.proofs.Rising.{rising_count}
use Rattle.exact_pivot.specs.Shape.{IsTableau}
use Rattle.exact_pivot.specs.Small.{AreSmall, cost_of}
use Rattle.exact_pivot.proofs.Beginnings.{variables_few, small_rows, row_widths, rows_count, begun, begun_keeps}
use Rattle.exact_pivot.proofs.tableau.Tableau.of.Goals as goal

pub overflow_cast-kept : goal.overflow_cast-kept
overflow_cast-kept c =
    let f = c.args.f.now in
    let kept = c.args.kept.now in
    let few : length kept + 0 ≤ length f.clauses = rising_count 0 (length f.clauses) kept c.requires (omega arith) in
    record { fits = omega (arith, few, c.occurring.ensures.limits.clauses) }

pub start_cost-requires-clause-size : goal.start_cost-requires-clause-size
start_cost-requires-clause-size c =
    let f = c.args.f.now in
    let kept = c.args.kept.now in
    let few : length kept + 0 ≤ length f.clauses = rising_count 0 (length f.clauses) kept c.requires (omega arith) in
    let rows = ap (λ (rs : List Row). length rs) (c.deref-2.ensures.value ∙ c.in_ok-signs.ensures.rows) ∙ rows_count f kept in
    omega (arith, few, rows, variables_few f kept, c.occurring.ensures.limits.clauses, c.occurring.ensures.limits.vars)

pub start_cost-requires-clause-widths : goal.start_cost-requires-clause-widths
start_cost-requires-clause-widths c =
    let f = c.args.f.now in
    let kept = c.args.kept.now in
    let is = c.deref-2.ensures.value ∙ c.in_ok-signs.ensures.rows in
    subst (λ (rs : List Row). All (λ (row : Row). length row.entries ≡ length kept + length rs + 2) rs) (sym is) (row_widths f kept)

pub start_cost-requires-clause-small : goal.start_cost-requires-clause-small
start_cost-requires-clause-small c =
    let f = c.args.f.now in
    let kept = c.args.kept.now in
    let few : length kept + 0 ≤ length f.clauses = rising_count 0 (length f.clauses) kept c.requires (omega arith) in
    subst (All (λ (row : Row). AreSmall row.entries)) (sym (c.deref-2.ensures.value ∙ c.in_ok-signs.ensures.rows)) (small_rows f kept (omega (arith, few, c.occurring.ensures.limits.clauses)))

pub invariant_of-result : goal.invariant_of-result
invariant_of-result c =
    let f = c.args.f.now in
    let kept = c.args.kept.now in
    let positions = c.in_ok-positions.ensures.items_if_clones_equal (λ x y e. e) in
    let signs = c.in_ok-signs.ensures.signs ∙ ap (map (sign_of f kept)) c.deref.ensures.value in
    let cost = c.in_ok-cost.ensures ∙ ap (cost_of (length kept)) c.deref-2.ensures.value in
    let is = begun f kept c.in_ok-positions.positions.items c.into_vec-vars.result.items c.in_ok-signs.signs.items c.in_ok-signs.rows.items c.in_ok-cost.cost
    positions (c.into_vec-vars.ensures ∙ c.in_ok-occurring.ensures.value) signs c.in_ok-signs.ensures.rows cost in
    let few : length kept ≤ 4000000 = (let most = rising_count 0 (length f.clauses) kept c.requires (omega arith) in omega (arith, most, c.occurring.ensures.limits.clauses)) in
    subst IsTableau (sym is) (begun_keeps f kept few c.occurring.ensures.limits.vars)

pub returns : goal.returns
returns c =
    let f = c.args.f.now in
    let kept = c.args.kept.now in
    let positions = c.in_ok-positions.ensures.items_if_clones_equal (λ x y e. e) in
    let signs = c.in_ok-signs.ensures.signs ∙ ap (map (sign_of f kept)) c.deref.ensures.value in
    let cost = c.in_ok-cost.ensures ∙ ap (cost_of (length kept)) c.deref-2.ensures.value in
    let is = begun f kept c.in_ok-positions.positions.items c.into_vec-vars.result.items c.in_ok-signs.signs.items c.in_ok-signs.rows.items c.in_ok-cost.cost
    positions (c.into_vec-vars.ensures ∙ c.in_ok-occurring.ensures.value) signs c.in_ok-signs.ensures.rows cost in
    is
