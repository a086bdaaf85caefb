use Rattle.std.proofs.Common.{◌+◌, ◌≤◌, drop}
use Rattle.command_endings.proofs.EditedLines.{IsWritten}
use Rattle.command_endings.proofs.edits.text_of.Given as goal

-- what is live, and the edits that are left; a search for each one that was made
abbrev pub invariant-loop-edit : goal.invariant-loop-edit
invariant-loop-edit g l = record {
  lines : IsWritten l.fn.live l.edits l.live (drop l.edit-index l.edits) l.text.items;
  searches : l.steps ≤ l.fn.steps + l.edit-index;
}
