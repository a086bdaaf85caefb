use Rattle.std.proofs.Common.{◌≡◌, ◌++◌, drop, map}
use Rattle.std.specs.Fmt.{signed_decimal}
use Rattle.line_text.specs.Spaced.{spaced}
use Rattle.line_text.proofs.writing.put_literals.Given as goal

-- what is written, and what is left to write
abbrev pub invariant-loop-l : goal.invariant-loop-l
invariant-loop-l l =
    l.out.items ++ spaced (map signed_decimal (drop l.l-index l.literals)) ≡ l.fn.out.items ++ spaced (map signed_decimal l.literals)
