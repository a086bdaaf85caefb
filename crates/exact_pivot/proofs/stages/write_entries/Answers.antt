use Rattle.std.proofs.Common.{◌+◌, IsTrue, pos, map, length, get_or, refl, sym, ◌∙◌, arith, rules}
use Rattle.std.specs.Int.RustNames.{FitsSigned}
use mir.Syntax.{w128}
use Rattle.std.proofs.lemmas.Int.{to_z-of_z}
use Rattle.std.proofs.lemmas.List.Elements.{All-set}
use Rattle.lk_model.specs.Lists.{up_to}
use Rattle.lk_model.specs.Limits.{is_in_range}
use Rattle.exact_rows.proofs.Quotients.{step_written, end_written}
use Rattle.exact_pivot.specs.Staged.{row_in, number_in_row, signed_number}
use Rattle.exact_pivot.proofs.Stagings.{number_at, numbers_long, entry_at}
use Rattle.exact_pivot.proofs.stages.write_entries.Goals as goal

pub loop-j-preserved : goal.loop-j-preserved
loop-j-preserved c =
    let s : FitsSigned w128 (get_or c.args.signs.now c.loop-j.j (pos 0)) = search rules in
    let x : FitsSigned w128 c.entry_of-x.result = record { sfits = c.entry_of-x.type_inv } in
    let z : FitsSigned w128 c.signed.result = record { sfits = c.signed.type_inv } in
    let value = simp to_z-of_z at (c.signed.ensures.value) in
    let m = c.args.clause_count in
    let r = length c.args.signs.now in
    let j = c.loop-j.j in
    let f = number_in_row m c.args.rows.now c.args.row in
    let size = numbers_long c.args.signs.now f r ∙ sym c.requires.lengths in
    let here = entry_at (row_in c.args.rows.now c.args.row).entries m j (m + j + 1) c.entry_of-x.result refl c.entry_of-x.ensures.value in
    record {
      value = simp to_z-of_z (step_written (map (signed_number c.args.signs.now f) (up_to r)) c.args.numbers.now c.loop-j.numbers j c.signed.result size (omega arith) c.loop-j.invariant.value
          (λ _. number_at c.args.signs.now f r j (get_or c.args.signs.now j (pos 0)) c.entry_of-x.result c.signed.result (omega arith) refl here value));
      range = simp to_z-of_z (All-set (λ y. IsTrue (is_in_range y)) c.loop-j.numbers j c.signed.result c.signed.ensures.range c.loop-j.invariant.range);
    }

pub returns-clause-value : goal.returns-clause-value
returns-clause-value c =
    let r = length c.args.signs.now in
    let f = number_in_row c.args.clause_count c.args.rows.now c.args.row in
    let size = numbers_long c.args.signs.now f r ∙ sym c.requires.lengths in
    end_written (map (signed_number c.args.signs.now f) (up_to r)) c.args.numbers.now c.loop-j.numbers c.loop-j.j size (omega arith) c.loop-j.invariant.value
