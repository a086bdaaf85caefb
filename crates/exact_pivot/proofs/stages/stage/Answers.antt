use Rattle.std.proofs.Common.{◌≡◌, length, Ok, sym, ap, subst, ◌∙◌, arith}
use Rattle.std.proofs.lemmas.Result.{err_from_is_err_and}
use Rattle.std.proofs.lemmas.List.{take_at}
use Rattle.lk_model.specs.Linear.Arithmetic.{primitive}
use Rattle.lk_model.specs.declared.document.Stage.{Stage}
use Rattle.exact_rows.specs.Made.{AreInRange}
use Rattle.exact_pivot.specs.Staged.{lasts, weights_with}
use Rattle.exact_pivot.proofs.Costs.{zeros_in_range}
use Rattle.exact_pivot.proofs.Stagings.{gives_stage, stage_numbers_long}
use Rattle.exact_pivot.proofs.stages.stage.Goals as goal

pub returns-in_err-write_numbers : goal.returns-in_err-write_numbers
returns-in_err-write_numbers c =
    let p = err_from_is_err_and c.from_residual-in_err-write_numbers.result c.from_residual-in_err-write_numbers.ensures.1 in
    gives_stage c.args.clause_count (length c.args.signs.now) c.args.vars.now c.args.signs.now c.args.rows.now c.args.cost.now c.from_residual-in_err-write_numbers.result c.requires.signs
    (rw (p.1, p.2) (sym c.in_err-write_numbers.ensures.wide))

pub returns : goal.returns
returns c =
    let n = length c.args.signs.now in
    let long : c.in_ok-numbers.numbers.len ≡ n = c.in_ok-numbers.ensures.len in
    let size : length c.write_numbers.new.numbers ≡ n = ap length c.in_ok-write_numbers.ensures.value
    ∙ stage_numbers_long (lasts c.args.clause_count n c.args.cost.now) c.args.clause_count n c.args.signs.now c.args.rows.now c.args.cost.now in
    let numbers = c.deref_mut-2.ensures.value ∙ take_at _ _ _ (omega (arith, long, size)) ∙ c.in_ok-write_numbers.ensures.value in
    gives_stage c.args.clause_count n c.args.vars.now c.args.signs.now c.args.rows.now c.args.cost.now (Ok c.in_ok-staged.field-0) c.requires.signs (
      sym c.in_ok-write_numbers.ensures.wide,
      c.in_ok-staged.ensures ∙ ap {B = Stage} (λ xs. record { weights = weights_with c.args.vars.now (primitive xs) }) numbers,
    )

pub write_numbers-requires-clause-range : goal.write_numbers-requires-clause-range
write_numbers-requires-clause-range c =
    subst AreInRange (sym (c.deref_mut.ensures.value ∙ c.in_ok-numbers.ensures.items_if_clones_equal (λ y e. e))) (zeros_in_range (length c.args.signs.now))

pub staged-requires : goal.staged-requires
staged-requires c =
    let n = length c.args.signs.now in
    let long : c.in_ok-numbers.numbers.len ≡ n = c.in_ok-numbers.ensures.len in
    let size : length c.write_numbers.new.numbers ≡ n = ap length c.in_ok-write_numbers.ensures.value
    ∙ stage_numbers_long (lasts c.args.clause_count n c.args.cost.now) c.args.clause_count n c.args.signs.now c.args.rows.now c.args.cost.now in
    subst AreInRange (sym (c.deref_mut-2.ensures.value ∙ take_at _ _ _ (omega (arith, long, size)))) c.write_numbers.ensures.range
