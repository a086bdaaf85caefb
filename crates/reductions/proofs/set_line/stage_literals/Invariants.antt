use Rattle.std.proofs.Common.{drop}
use Rattle.reductions.specs.SignTables.{AreSigns}
use Rattle.reductions.proofs.set_line.stage_literals.Given as goal

-- the signs of the stages so far, which stand last
abbrev pub invariant-loop-k : goal.invariant-loop-k
invariant-loop-k l = AreSigns l.n (drop l.k l.stages) l.table.items
