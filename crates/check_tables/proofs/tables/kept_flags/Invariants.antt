use Rattle.std.proofs.Common.{take}
use Rattle.check_tables.specs.Flags.{AreKeptFlags}
use Rattle.check_tables.proofs.tables.kept_flags.Given as goal

-- the flags of the positions so far
abbrev pub invariant-loop-p : goal.invariant-loop-p
invariant-loop-p l = AreKeptFlags l.m (take l.p-index l.kept) l.flags.items
