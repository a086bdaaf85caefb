use Rattle.std.proofs.Common.{drop, length}
use Rattle.check_rounds.specs.Blocking.{AreMarked, AreSeen, first_number}
use Rattle.lk_model.specs.Laws.{last_number}
use Rattle.check_rounds.proofs.Reaching.{reached_from}
use Rattle.check_rounds.proofs.blocking.block_reached.Given as goal

-- what is reached so far is marked
abbrev pub invariant-loop-i : goal.invariant-loop-i
invariant-loop-i l = record {
  marked : AreMarked l.f l.k (first_number l.steps) (length l.steps) (reached_from (last_number l.steps) (drop l.i l.steps)) l.fn.table l.marks.items l.table;
  seen : AreSeen l.f l.k l.seen l.table;
}
