use Rattle.std.proofs.Common.{map, append_assoc}
use Rattle.std.specs.Fmt.{signed_decimal}
use Rattle.line_text.proofs.PrintedLines.{ended_comment}
use Rattle.line_text.proofs.writing.put_literal_line.Goals as goal

pub returns : goal.returns
returns c = rw (ended_comment c.args.keyword.now (map signed_decimal c.args.literals.now), ← append_assoc c.args.out.now.items _ _, ← c.in_ok-put_keyword.ensures) c.put_clause_line.ensures
