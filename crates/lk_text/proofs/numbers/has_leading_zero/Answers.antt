use Rattle.std.proofs.Common.{sym, subst, Bool}
use Rattle.lk_text.proofs.Shortest.{IsTold, told_first, told_behind_minus}
use Rattle.lk_text.proofs.numbers.has_leading_zero.Goals as goal

pub returns-then-first-eq45 : goal.returns-then-first-eq45
returns-then-first-eq45 c = subst (λ (b : Bool). IsTold c.args.word.now b) (sym c.begins_with_zero.ensures) (told_behind_minus _ _ _ c.in-Some.ensures.cases.0 c.if-first-eq45.true)

pub returns-else-first-eq45 : goal.returns-else-first-eq45
returns-else-first-eq45 c = subst (λ (b : Bool). IsTold c.args.word.now b) (sym c.begins_with_zero-else-first-eq45.ensures) (told_first _ _ _ c.in-Some.ensures.cases.0 c.if-first-eq45.false)
