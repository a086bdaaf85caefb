use Rattle.std.proofs.Common.{◌≡◌, take}
use Rattle.command_endings.proofs.counts.is_tautology.Given as goal

-- it contains the literals so far
abbrev pub invariant-loop-l : goal.invariant-loop-l
invariant-loop-l l = l.growing ≡ record { vars = l.fn.growing.vars; literals = take l.l-index l.clause }
