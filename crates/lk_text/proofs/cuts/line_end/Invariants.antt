use Rattle.std.proofs.Common.{IsTrue}
use Rattle.std.specs.Prelude.{slice_range}
use Rattle.lk_text.specs.Cutting.{is_one_line}
use Rattle.lk_text.proofs.cuts.line_end.Given as goal

-- what was passed
abbrev pub invariant-loop-i : goal.invariant-loop-i
invariant-loop-i l = IsTrue (is_one_line (slice_range l.bytes l.from l.i))
