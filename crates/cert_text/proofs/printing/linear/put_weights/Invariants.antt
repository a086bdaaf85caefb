use Rattle.std.proofs.Common.{◌≡◌, ◌++◌, drop}
use Rattle.line_text.specs.Spaced.{spaced}
use Rattle.cert_text.specs.Printed.{weight_words}
use Rattle.cert_text.proofs.printing.linear.put_weights.Given as goal

-- what is written, and what is left to write
abbrev pub invariant-loop-weight : goal.invariant-loop-weight
invariant-loop-weight l =
    l.out.items ++ spaced (weight_words (drop l.weight-index l.weights)) ≡ l.fn.out.items ++ spaced (weight_words l.weights)
