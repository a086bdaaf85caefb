use Rattle.std.proofs.Common.{take}
use Rattle.check_tables.specs.Occurring.{NotesVariables}
use Rattle.check_pure_matching.specs.Matching.{NotesNamed, has_own, has_escape}
use Rattle.check_pure_matching.proofs.matching.Seen.note.Given as goal

-- the variables are noted, and of the rest the literals so far
abbrev pub invariant-loop-l : goal.invariant-loop-l
invariant-loop-l l = record {
  occurring : NotesVariables l.n l.clause l.fn.self.occurring l.self.occurring;
  own : NotesNamed l.n (take l.l-index l.clause) l.position l.rows has_own l.fn.self.own l.self.own;
  escape : NotesNamed l.n (take l.l-index l.clause) l.position l.rows has_escape l.fn.self.escape l.self.escape;
}
