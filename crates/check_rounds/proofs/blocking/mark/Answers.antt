use Rattle.std.proofs.Common.{length, arith}
use Rattle.check_rounds.proofs.Reaching.{clause_marked, step_marked, nothing_marked}
use Rattle.check_rounds.proofs.blocking.mark.Goals as goal

pub returns-then-number-from-clause-marked : goal.returns-then-number-from-clause-marked
returns-then-number-from-clause-marked c known before h =
    let F = c.args.f.now in
    let table = c.args.table.now in
    let after = c.block_position.new.table in
    clause_marked F c.args.k c.args.first (length c.args.marks.now) c.args.number known before c.args.marks.now table after (omega arith) c.requires.past c.block_position.ensures.blocked h

pub returns-then-number-first-clause-marked : goal.returns-then-number-first-clause-marked
returns-then-number-first-clause-marked c known before h =
    step_marked c.args.f.now c.args.k c.args.first (length c.args.marks.now) c.args.number known before c.args.marks.now c.args.table.now (omega arith) (omega arith) c.requires.most h

pub returns-else-number-first-clause-marked : goal.returns-else-number-first-clause-marked
returns-else-number-first-clause-marked c known before h =
    nothing_marked c.args.f.now c.args.k c.args.first (length c.args.marks.now) c.args.number known before c.args.marks.now c.args.table.now (omega arith) (omega arith) h
