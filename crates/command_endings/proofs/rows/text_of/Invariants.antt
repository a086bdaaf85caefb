use Rattle.std.proofs.Common.{◌≡◌, take, map}
use Rattle.std.specs.Prelude.{flat_map}
use Rattle.command_endings.specs.Commands.Report.{row_line}
use Rattle.command_endings.specs.Counting.{seen}
use Rattle.command_endings.proofs.rows.text_of.Given as goal

-- the lines of the rows so far
abbrev pub invariant-loop-row : goal.invariant-loop-row
invariant-loop-row l = l.text.items ≡ flat_map row_line (map seen (take l.row-index l.rows))
