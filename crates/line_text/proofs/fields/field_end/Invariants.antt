use Rattle.std.proofs.Common.{IsTrue}
use Rattle.std.specs.Prelude.{slice_range}
use Rattle.line_text.specs.Fields.{has_no_space}
use Rattle.line_text.proofs.fields.field_end.Given as goal

abbrev pub invariant-loop-i : goal.invariant-loop-i
invariant-loop-i l = IsTrue (has_no_space (slice_range l.line 0 l.i))
