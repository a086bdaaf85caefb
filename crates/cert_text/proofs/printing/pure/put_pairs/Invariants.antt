use Rattle.std.proofs.Common.{◌≡◌, ◌++◌, drop, map}
use Rattle.std.specs.List.{flat_map}
use Rattle.lk_model.specs.Texts.PlainText.{line}
use Rattle.lk_model.specs.Documents.Text.{pair_line}
use Rattle.cert_text.proofs.printing.pure.put_pairs.Given as goal

-- what is written, and what is left to write
abbrev pub invariant-loop-pair : goal.invariant-loop-pair
invariant-loop-pair l =
    l.out.items ++ flat_map line (map pair_line (drop l.pair-index l.pairs)) ≡ l.fn.out.items ++ flat_map line (map pair_line l.pairs)
