use Rattle.std.proofs.Common.{◌≡◌, ◌+◌, ℤ, List, length, map, pos, replicate, ap, ◌∙◌}
use Rattle.std.proofs.lemmas.List.{length-replicate}
use Rattle.std.proofs.lemmas.List.FromFn.{length-map-range_with_len}
use Rattle.lk_model.specs.Lists.{up_to}
use Rattle.lk_model.specs.Linear.Rows.{less_column}
use Rattle.exact_pivot.proofs.Costs.{cost_filled, cost_is}
use Rattle.exact_pivot.proofs.start.write_cost.Goals as goal

pub returns : goal.returns
returns c =
    let m = c.args.m in
    let rows = c.args.rows.now in
    let width = m + length rows + 2 in
    let wide : length c.args.cost.now ≡ width = ap (λ (xs : List ℤ). length xs) c.requires.none ∙ length-replicate width (pos 0) in
    let sums : c.subtract_rows.new.sums ≡ map (less_column rows) (up_to width) = c.subtract_rows.ensures ∙ ap (λ n. map (less_column rows) (up_to n)) wide in
    let long = ap (λ (xs : List ℤ). length xs) sums ∙ length-map-range_with_len (less_column rows) 1 width in
    cost_filled m (length rows) c.subtract_rows.new.sums c.fill.new.self long (c.fill.ensures.after (λ y e. e)) ∙ cost_is m rows c.subtract_rows.new.sums sums
