use Rattle.std.specs.Prelude.{codes}
use Rattle.cert_text.specs.Printed.{unit_words}
use Rattle.line_text.proofs.PrintedLines.{ended_behind}
use Rattle.cert_text.proofs.printing.linear.put_unit.Goals as goal

pub returns : goal.returns
returns c =
    rw (← ended_behind _ _ _ (codes "unit") (unit_words c.args.unit.now) c.in_ok-put_keyword.ensures c.in_ok-put_unit_words.ensures) c.put_closing_zero.ensures
