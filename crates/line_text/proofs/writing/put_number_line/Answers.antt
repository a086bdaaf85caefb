use Rattle.lk_model.specs.Texts.PlainText.{number_words}
use Rattle.line_text.proofs.PrintedLines.{ended_behind}
use Rattle.line_text.proofs.writing.put_number_line.Goals as goal

pub returns : goal.returns
returns c =
    rw (← ended_behind _ _ _ c.args.keyword.now (number_words c.args.numbers.now) c.in_ok-put_keyword.ensures c.in_ok-put_numbers.ensures) c.put_closing_zero.ensures
