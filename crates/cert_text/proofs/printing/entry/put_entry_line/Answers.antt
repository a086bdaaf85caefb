use Rattle.cert_text.proofs.PrintedTexts.{entry_behind}
use Rattle.cert_text.proofs.printing.entry.put_entry_line.Goals as goal

pub returns : goal.returns
returns c =
    rw (← entry_behind c.args.out.now.items c.put_keyword.new.out.items c.put_numbers.new.out.items c.args.keyword.now c.args.numbers.now c.args.last c.in_ok-put_keyword.ensures c.in_ok-put_numbers.ensures)
    (rw c.from.ensures at c.put_number.ensures)
