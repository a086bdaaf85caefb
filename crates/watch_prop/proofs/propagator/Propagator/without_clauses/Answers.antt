use Rattle.std.proofs.Common.{◌∙◌, ℕ, ◌+◌, ◌*◌, ◌≤◌, [], replicate, refl, sym, ap, arith, vec_capacity}
use Rattle.watch_prop.proofs.Holding.{empty_state}
use Rattle.watch_prop.proofs.propagator.Propagator.without_clauses.Goals as goal

pub invariant_of-result : goal.invariant_of-result
invariant_of-result c =
    let path = c.in_ok-new.field-0 in
    let vars = c.in_ok-new.ensures.vars in
    let few : path.vars ≤ 1000000 = omega (arith, vars, c.requires) in
    let room : path.vars ≤ vec_capacity c.in_ok-marks.marks = omega (arith, vars, c.in_ok-marks.ensures.exact) in
    empty_state path _ c.new-3.result few c.in_ok-new.ensures.entries c.new-3.ensures c.new-4.ensures.items c.new-6.ensures.items
    (c.in_ok-lists.ensures.lists ∙ ap (λ (n : ℕ). replicate (2 * n + 2) []) (sym vars)) (c.in_ok-lists.ensures.rows ∙ ap (λ (n : ℕ). replicate (2 * n + 2) []) (sym vars)) (c.in_ok-lists.ensures.counts ∙ ap (λ (n : ℕ). replicate (2 * n + 2) 0) (sym vars))
    refl refl c.in_ok-marks.ensures.items room
