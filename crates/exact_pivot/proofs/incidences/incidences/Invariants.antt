use Rattle.std.proofs.Common.{take}
use Rattle.exact_pivot.specs.Scattered.{AreIncidences}
use Rattle.exact_pivot.proofs.incidences.incidences.Given as goal

-- the clauses so far
abbrev pub invariant-loop-i : goal.invariant-loop-i
invariant-loop-i l = AreIncidences l.f (take l.i l.kept) l.rows.items
