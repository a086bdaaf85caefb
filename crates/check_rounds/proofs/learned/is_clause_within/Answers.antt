use Rattle.std.proofs.Common.{◌∙◌, true, false, refl}
use Rattle.check_rounds.proofs.LearnedChecks.{within_is}
use Rattle.check_rounds.proofs.learned.is_clause_within.Goals as goal

pub returns-then-has_left : goal.returns-then-has_left
returns-then-has_left c = within_is c.args.over.now c.args.held.now c.args.p c.clause-clause.result.now true c.is_left.result c.clause-clause.ensures.value c.if-has_left.ensures c.is_left.ensures

pub returns-else-has_left : goal.returns-else-has_left
returns-else-has_left c = c.if-has_left.false ∙ within_is c.args.over.now c.args.held.now c.args.p c.clause-clause.result.now false _ c.clause-clause.ensures.value c.if-has_left.ensures refl
