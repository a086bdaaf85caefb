use Rattle.std.proofs.Common.{◌≡◌, ◌++◌, drop, map}
use Rattle.std.specs.List.{flat_map}
use Rattle.lk_model.specs.Texts.PlainText.{line}
use Rattle.lk_model.specs.Documents.Text.{own_line}
use Rattle.cert_text.proofs.printing.matching.put_owns.Given as goal

-- what is written, and what is left to write
abbrev pub invariant-loop-own : goal.invariant-loop-own
invariant-loop-own l =
    l.out.items ++ flat_map line (map own_line (drop l.own-index l.owns)) ≡ l.fn.out.items ++ flat_map line (map own_line l.owns)
