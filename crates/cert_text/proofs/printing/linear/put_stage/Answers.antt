use Rattle.std.specs.Prelude.{codes}
use Rattle.cert_text.specs.Printed.{weight_words}
use Rattle.line_text.proofs.PrintedLines.{ended_behind}
use Rattle.cert_text.proofs.printing.linear.put_stage.Goals as goal

pub returns : goal.returns
returns c =
    rw (← ended_behind c.args.out.now.items c.put_keyword.new.out.items c.put_weights.new.out.items (codes "stage") (weight_words c.args.stage.now.weights) c.in_ok-put_keyword.ensures (rw (← c.as_slice.ensures) c.in_ok-put_weights.ensures))
    c.put_closing_zero.ensures
