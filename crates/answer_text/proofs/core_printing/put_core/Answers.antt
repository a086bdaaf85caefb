use Rattle.std.proofs.Common.{◌≡◌, ℕ, List, subst, OnOk}
use Rattle.answer_text.proofs.WrittenCores.{core_behind}
use Rattle.answer_text.proofs.core_printing.put_core.Goals as goal

pub returns : goal.returns
returns c =
    subst (λ (text : List ℕ). OnOk c.put_formula.result (c.put_formula.new.out.items ≡ text))
    (core_behind c.args.out.now.items c.put_first_lines.new.out.items c.put_number_line.new.out.items c.put_round.new.out.items c.put_withouts.new.out.items c.args.a.now
    c.as_slice.result.now c.as_slice-2.result.now c.as_slice.ensures c.as_slice-2.ensures
    c.in_ok-put_first_lines.ensures c.in_ok-put_number_line.ensures c.in_ok-put_round.ensures c.in_ok-put_withouts.ensures)
    c.put_formula.ensures
