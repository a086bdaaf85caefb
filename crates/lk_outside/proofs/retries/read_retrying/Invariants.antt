use Rattle.std.proofs.Common.{◌≡◌, length}
use Rattle.std.specs.Io.KnownBytes.{Keeps}
use Rattle.lk_outside.proofs.retries.read_retrying.Given as goal

-- the tries so far took no byte
abbrev pub invariant-loop : goal.invariant-loop
invariant-loop g l = (length l.piece ≡ length l.initial.piece) × Keeps (g.R.Read.remaining l.initial.reader) (g.R.Read.remaining l.reader)
