use Rattle.std.proofs.Common.{◌≡◌, ◌++◌, drop, map}
use Rattle.std.specs.List.{flat_map}
use Rattle.lk_model.specs.Texts.PlainText.{line}
use Rattle.lk_model.specs.Documents.Text.{stage_line}
use Rattle.cert_text.proofs.printing.linear.put_stages.Given as goal

-- what is written, and what is left to write
abbrev pub invariant-loop-stage : goal.invariant-loop-stage
invariant-loop-stage l =
    l.out.items ++ flat_map line (map stage_line (drop l.stage-index l.stages)) ≡ l.fn.out.items ++ flat_map line (map stage_line l.stages)
