use Rattle.std.proofs.Common.{◌≡◌, ◌++◌, drop, map}
use Rattle.std.specs.List.{flat_map}
use Rattle.lk_model.specs.Texts.PlainText.{line}
use Rattle.lk_model.specs.Documents.CoreText.{without_line}
use Rattle.answer_text.proofs.core_printing.put_withouts.Given as goal

-- what is written, and what is left to write
abbrev pub invariant-loop-without : goal.invariant-loop-without
invariant-loop-without l =
    l.out.items ++ flat_map line (map without_line (drop l.without-index l.withouts)) ≡ l.fn.out.items ++ flat_map line (map without_line l.withouts)
