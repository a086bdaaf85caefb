use Rattle.std.proofs.Common.{◌≡◌, ◌++◌, drop}
use Rattle.lk_model.specs.Texts.PlainText.{number_words}
use Rattle.line_text.specs.Spaced.{spaced}
use Rattle.cert_text.proofs.printing.entry.put_numbers.Given as goal

-- what is written, and what is left to write
abbrev pub invariant-loop-n : goal.invariant-loop-n
invariant-loop-n l =
    l.out.items ++ spaced (number_words (drop l.n-index l.numbers)) ≡ l.fn.out.items ++ spaced (number_words l.numbers)
