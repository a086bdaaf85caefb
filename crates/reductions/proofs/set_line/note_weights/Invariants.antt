use Rattle.std.proofs.Common.{drop}
use Rattle.reductions.specs.SignTables.{NotesSigns}
use Rattle.reductions.proofs.set_line.note_weights.Given as goal

-- the weights so far, which stand last
abbrev pub invariant-loop-i : goal.invariant-loop-i
invariant-loop-i l = NotesSigns l.n (drop l.i l.weights) l.fn.table l.table
