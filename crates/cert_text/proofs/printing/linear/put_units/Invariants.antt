use Rattle.std.proofs.Common.{◌≡◌, ◌++◌, drop, map}
use Rattle.std.specs.List.{flat_map}
use Rattle.lk_model.specs.Texts.PlainText.{line}
use Rattle.lk_model.specs.Documents.Text.{unit_line}
use Rattle.cert_text.proofs.printing.linear.put_units.Given as goal

-- what is written, and what is left to write
abbrev pub invariant-loop-unit : goal.invariant-loop-unit
invariant-loop-unit l =
    l.out.items ++ flat_map line (map unit_line (drop l.unit-index l.units)) ≡ l.fn.out.items ++ flat_map line (map unit_line l.units)
