use Rattle.std.proofs.Common.{◌≡◌, ◌-◌, ◌∙◌, Bool, List, ℕ, false, ap, subst, arith, length, filter, slice_index_or, IfOk}
use Rattle.std.specs.List.{range_with_len}
use Rattle.lk_model.specs.Lists.{among}
use Rattle.lk_model.specs.Chains.Rounds.{reached, used_positions}
use Rattle.refutation_log.proofs.Renumbering.{same_in_range}
use Rattle.refutation_log.proofs.axioms.marked_positions.Goals as goal

pub returns : goal.returns
returns c = λ steps reach.
    let m = c.args.marks.now in
    let marks = c.deref.result.now in
    let are : marks ≡ m.positions.items = c.deref.ensures.value in
    let count : length marks - 1 ≡ length c.args.over.now.formula.now.clauses = omega (arith, ap length are, c.requires) in
    let same : filter (λ p. slice_index_or marks p false) (range_with_len 1 (length marks - 1)) ≡ used_positions c.args.over.now.formula.now (record { steps = steps }) =
    same_in_range (λ p. slice_index_or marks p false) (among (reached steps)) (length marks - 1) 1
    (λ p le lt. ap (λ (ms : List Bool). slice_index_or ms p false) are ∙ reach.positions p (omega (arith, lt, le, ap length are)))
    ∙ ap (λ n. filter (among (reached steps)) (range_with_len 1 n)) count in
    subst (λ (ns : List ℕ). IfOk c.marked_places.result (λ ps. ps ≡ ns)) same c.marked_places.ensures
