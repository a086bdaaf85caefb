use Rattle.std.proofs.Common.{IsTrue}
use Rattle.std.specs.Prelude.{slice_range}
use Rattle.lk_text.specs.Cutting.{are_blank}
use Rattle.lk_text.proofs.cuts.word_begin.Given as goal

-- what was passed
abbrev pub invariant-loop-i : goal.invariant-loop-i
invariant-loop-i l = IsTrue (are_blank (slice_range l.bytes l.from l.i))
