use Rattle.std.proofs.Common.{◌≡◌, ◌++◌, drop, map}
use Rattle.std.specs.List.{flat_map}
use Rattle.lk_model.specs.Texts.PlainText.{line}
use Rattle.lk_model.specs.Documents.Text.{step_line}
use Rattle.round_text.proofs.print_rounds.put_steps.Given as goal

-- what is written, and what is left to write
abbrev pub invariant-loop-step : goal.invariant-loop-step
invariant-loop-step l =
    l.out.items ++ flat_map line (map step_line (drop l.step-index l.steps)) ≡ l.fn.out.items ++ flat_map line (map step_line l.steps)
