use Rattle.std.proofs.Common.{◌≡◌, [], take}
use Rattle.command_endings.specs.Counting.{counts_of}
use Rattle.command_endings.proofs.counts.counts_of.Given as goal

-- the clauses so far are counted
abbrev pub invariant-loop-i : goal.invariant-loop-i
invariant-loop-i l = record {
  counted : l.counts ≡ counts_of (take l.i l.f.clauses);
  empty : l.growing ≡ record { vars = l.f.vars; literals = [] };
}
