use Rattle.std.proofs.Common.{IsTrue}
use Rattle.std.specs.Prelude.{slice_range}
use Rattle.lk_text.specs.Cutting.{has_no_blank}
use Rattle.lk_text.proofs.cuts.word_end.Given as goal

-- what was passed
abbrev pub invariant-loop-i : goal.invariant-loop-i
invariant-loop-i l = IsTrue (has_no_blank (slice_range l.bytes l.from l.i))
