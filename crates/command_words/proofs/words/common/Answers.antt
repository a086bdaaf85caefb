use Rattle.std.proofs.Common.{◌∙◌, sym, arith}
use Rattle.std.proofs.lemmas.Bool.{not-true, not-false}
use Rattle.command_words.proofs.CommonWords.{another, differs, front_end}
use Rattle.command_words.proofs.words.common.Goals as goal

pub returns-then-ne : goal.returns-then-ne
returns-then-ne c = differs c.args.words.now c.args.front.now c.loop-count.count c.loop-count.invariant c.loop-count-test.true c.if-count-front.true (not-true _ (sym c.ne.ensures ∙ c.if-ne.true))

pub loop-count-preserved : goal.loop-count-preserved
loop-count-preserved c = another c.args.words.now c.args.front.now c.loop-count.count c.loop-count.invariant c.loop-count-test.true c.if-count-front.true (not-false _ (sym c.ne.ensures ∙ c.if-ne.false))

pub returns-else-count-front : goal.returns-else-count-front
returns-else-count-front c = front_end c.args.words.now c.args.front.now c.loop-count.count c.loop-count.invariant (omega (arith, c.if-count-front.false))
