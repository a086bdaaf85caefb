use Rattle.std.proofs.Common.{take}
use Rattle.check_tables.specs.Occurring.{NotesVariables}
use Rattle.check_pure_matching.specs.Pairs.{NotesLiterals}
use Rattle.check_pure_matching.proofs.pairs.Seen.note.Given as goal

-- the variables are noted, and of the rest the literals so far
abbrev pub invariant-loop-l : goal.invariant-loop-l
invariant-loop-l l = record {
  occurring : NotesVariables l.n l.clause l.fn.self.occurring l.self.occurring;
  shown : NotesLiterals l.n (take l.l-index l.clause) l.position l.named l.fn.self.shown l.self.shown;
}
