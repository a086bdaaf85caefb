use Rattle.std.proofs.Common.{map, append_assoc}
use Rattle.std.specs.Fmt.{signed_decimal}
use Rattle.line_text.proofs.PrintedLines.{ended_line}
use Rattle.line_text.proofs.writing.put_clause_line.Goals as goal

pub returns : goal.returns
returns c = rw (ended_line (map signed_decimal c.args.literals.now), ← append_assoc, ← c.in_ok-put_literals.ensures) c.put_closing_zero.ensures
