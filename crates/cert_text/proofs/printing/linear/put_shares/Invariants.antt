use Rattle.std.proofs.Common.{◌≡◌, ◌++◌, drop}
use Rattle.line_text.specs.Spaced.{spaced}
use Rattle.cert_text.specs.Printed.{share_words}
use Rattle.cert_text.proofs.printing.linear.put_shares.Given as goal

-- what is written, and what is left to write
abbrev pub invariant-loop-share : goal.invariant-loop-share
invariant-loop-share l =
    l.out.items ++ spaced (share_words (drop l.share-index l.shares)) ≡ l.fn.out.items ++ spaced (share_words l.shares)
