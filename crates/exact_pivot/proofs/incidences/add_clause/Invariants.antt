use Rattle.std.proofs.Common.{take}
use Rattle.exact_pivot.specs.Scattered.{AddsClause}
use Rattle.exact_pivot.proofs.incidences.add_clause.Given as goal

-- the literals so far
abbrev pub invariant-loop-l : goal.invariant-loop-l
invariant-loop-l l = AddsClause (take l.l-index l.clause) l.column l.initial.rows l.rows
