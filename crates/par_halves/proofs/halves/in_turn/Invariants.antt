use Rattle.std.proofs.Common.{take}
use Rattle.par_halves.specs.Answering.{GivesFrom}
use Rattle.par_halves.proofs.halves.in_turn.Given as goal

abbrev pub invariant-loop-k : goal.invariant-loop-k
invariant-loop-k g l = GivesFrom g.F.Fn l.f l.from (take l.k l.items) l.answers.items
