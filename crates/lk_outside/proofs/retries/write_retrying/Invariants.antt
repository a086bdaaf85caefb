use Rattle.std.specs.Io.KnownBytes.{Keeps}
use Rattle.lk_outside.proofs.retries.write_retrying.Given as goal

-- the tries so far wrote no byte
abbrev pub invariant-loop : goal.invariant-loop
invariant-loop g l = Keeps (g.W.Write.contents l.initial.writer) (g.W.Write.contents l.writer)
