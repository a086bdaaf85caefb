use Rattle.std.proofs.Common.{◌≡◌, ◌++◌, drop}
use Rattle.std.specs.List.{flat_map}
use Rattle.lk_model.specs.Texts.PlainText.{line}
use Rattle.lk_model.specs.Documents.Text.{round_lines}
use Rattle.round_text.proofs.print_rounds.put_rounds.Given as goal

-- what is written, and what is left to write
abbrev pub invariant-loop-round : goal.invariant-loop-round
invariant-loop-round l =
    l.out.items ++ flat_map line (flat_map round_lines (drop l.round-index l.rounds)) ≡ l.fn.out.items ++ flat_map line (flat_map round_lines l.rounds)
