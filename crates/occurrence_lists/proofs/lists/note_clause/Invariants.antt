use Rattle.std.proofs.Common.{◌≡◌, take}
use Rattle.occurrence_lists.specs.Noting.{NotesClause}
use Rattle.occurrence_lists.proofs.lists.note_clause.Given as goal

-- the position is noted at the literals so far
abbrev pub invariant-loop-l : goal.invariant-loop-l
invariant-loop-l l = record {
  sizes : l.lists.sizes ≡ l.fn.lists.sizes;
  noted : NotesClause (take l.l-index l.clause) l.position l.fn.lists.lists l.lists.lists;
}
