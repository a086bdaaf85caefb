use Rattle.std.proofs.Common.{◌+◌, IsTrue, pos, map, length, get_or, refl, sym, ◌∙◌, arith, rules}
use Rattle.std.specs.Int.RustNames.{FitsSigned}
use mir.Syntax.{w128}
use Rattle.std.proofs.lemmas.Int.{to_z-of_z}
use Rattle.std.proofs.lemmas.Result.{err_from_is_err_and}
use Rattle.std.proofs.lemmas.List.Elements.{All-set}
use Rattle.lk_model.specs.Lists.{up_to}
use Rattle.lk_model.specs.Limits.{is_in_range}
use Rattle.exact_rows.proofs.Quotients.{step_written, end_written}
use Rattle.exact_pivot.specs.Staged.{difference_at, made_in_difference, signed_number}
use Rattle.exact_pivot.proofs.Firsts.{flat_at, flat_past, flat_end}
use Rattle.exact_pivot.proofs.Stagings.{number_at, numbers_long, entry_at, difference_value, difference_wide, difference_none, variable_at, variables_long}
use Rattle.exact_pivot.proofs.stages.write_differences.Goals as goal

pub returns-in_err-x-clause-wide : goal.returns-in_err-x-clause-wide
returns-in_err-x-clause-wide c =
    let a : FitsSigned w128 c.entry.result = record { sfits = c.entry.type_inv } in
    let u : FitsSigned w128 c.entry-unit.result = record { sfits = c.entry-unit.type_inv } in
    let told = simp to_z-of_z at (c.in_err-x.ensures) in
    let m = c.args.clause_count in
    let r = length c.args.signs.now in
    let cost = c.args.cost.now in
    let j = c.loop-j.j in
    let p = err_from_is_err_and c.from_residual.result c.from_residual.ensures.1 in
    rw (p.1, p.2) (flat_at (made_in_difference m r cost) (up_to r) j (1 + j) _ (omega (arith, variables_long r)) (variable_at r j (omega arith)) c.loop-j.invariant.wide
    (difference_wide m r cost j c.entry.result c.entry-unit.result _ (entry_at cost m j (m + j + 1) c.entry.result refl c.entry.ensures.value) c.entry-unit.ensures.value told))

pub loop-j-preserved : goal.loop-j-preserved
loop-j-preserved c =
    let a : FitsSigned w128 c.entry.result = record { sfits = c.entry.type_inv } in
    let u : FitsSigned w128 c.entry-unit.result = record { sfits = c.entry-unit.type_inv } in
    let s : FitsSigned w128 (get_or c.args.signs.now c.loop-j.j (pos 0)) = search rules in
    let x : FitsSigned w128 c.in_ok-x.x = search rules in
    let z : FitsSigned w128 c.signed.result = record { sfits = c.signed.type_inv } in
    let told = simp to_z-of_z at (c.in_ok-x.ensures) in
    let value = simp to_z-of_z at (c.signed.ensures.value) in
    let m = c.args.clause_count in
    let r = length c.args.signs.now in
    let cost = c.args.cost.now in
    let j = c.loop-j.j in
    let size = numbers_long c.args.signs.now (difference_at m r cost) r ∙ sym c.requires.lengths in
    let here = entry_at cost m j (m + j + 1) c.entry.result refl c.entry.ensures.value in
    record {
      value = simp to_z-of_z (step_written (map (signed_number c.args.signs.now (difference_at m r cost)) (up_to r)) c.args.numbers.now c.loop-j.numbers j c.signed.result size (omega arith) c.loop-j.invariant.value
          (λ _. number_at c.args.signs.now (difference_at m r cost) r j (get_or c.args.signs.now j (pos 0)) c.in_ok-x.x c.signed.result (omega arith) refl (difference_value m r cost j c.entry.result c.entry-unit.result c.in_ok-x.x here c.entry-unit.ensures.value told) value));
      wide = flat_past (made_in_difference m r cost) (up_to r) j (1 + j) (omega (arith, variables_long r)) (variable_at r j (omega arith)) c.loop-j.invariant.wide
          (difference_none m r cost j c.entry.result c.entry-unit.result c.in_ok-x.x here c.entry-unit.ensures.value told);
      range = simp to_z-of_z (All-set (λ y. IsTrue (is_in_range y)) c.loop-j.numbers j c.signed.result c.signed.ensures.range c.loop-j.invariant.range);
    }

pub returns-clause-wide : goal.returns-clause-wide
returns-clause-wide c =
    let r = length c.args.signs.now in
    flat_end (made_in_difference c.args.clause_count r c.args.cost.now) (up_to r) c.loop-j.j (omega (arith, variables_long r)) c.loop-j.invariant.wide

pub returns-clause-value : goal.returns-clause-value
returns-clause-value c =
    let r = length c.args.signs.now in
    let f = difference_at c.args.clause_count r c.args.cost.now in
    let size = numbers_long c.args.signs.now f r ∙ sym c.requires.lengths in
    end_written (map (signed_number c.args.signs.now f) (up_to r)) c.args.numbers.now c.loop-j.numbers c.loop-j.j size (omega arith) c.loop-j.invariant.value
