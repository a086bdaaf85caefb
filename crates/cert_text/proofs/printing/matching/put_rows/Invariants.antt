use Rattle.std.proofs.Common.{◌≡◌, ◌++◌, drop, map}
use Rattle.std.specs.List.{flat_map}
use Rattle.lk_model.specs.Texts.PlainText.{line}
use Rattle.lk_model.specs.Documents.Text.{row_line}
use Rattle.cert_text.proofs.printing.matching.put_rows.Given as goal

-- what is written, and what is left to write
abbrev pub invariant-loop-row : goal.invariant-loop-row
invariant-loop-row l =
    l.out.items ++ flat_map line (map row_line (drop l.row-index l.rows)) ≡ l.fn.out.items ++ flat_map line (map row_line l.rows)
