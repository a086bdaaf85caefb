use Rattle.std.proofs.Common.{◌≡◌, ◌++◌, drop, map}
use Rattle.std.specs.List.{flat_map}
use Rattle.lk_model.specs.Texts.PlainText.{line}
use Rattle.lk_model.specs.Documents.Text.{dual_line}
use Rattle.cert_text.proofs.printing.linear.put_duals.Given as goal

-- what is written, and what is left to write
abbrev pub invariant-loop-dual : goal.invariant-loop-dual
invariant-loop-dual l =
    l.out.items ++ flat_map line (map dual_line (drop l.dual-index l.duals)) ≡ l.fn.out.items ++ flat_map line (map dual_line l.duals)
