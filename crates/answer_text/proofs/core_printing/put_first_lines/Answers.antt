use Rattle.std.proofs.Common.{◌≡◌, ℕ, List, subst, OnOk}
use Rattle.answer_text.specs.CoreDrafts.{format_line, size_line}
use Rattle.answer_text.proofs.WrittenCores.{two_lines}
use Rattle.answer_text.proofs.core_printing.put_first_lines.Goals as goal

pub returns : goal.returns
returns c =
    subst (λ (text : List ℕ). OnOk c.put_size_line.result (c.put_size_line.new.out.items ≡ text))
    (two_lines c.args.out.now.items c.put.new.out.items format_line (size_line c.args.vars c.args.clauses) c.in_ok-put.ensures)
    c.put_size_line.ensures
