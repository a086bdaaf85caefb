use Rattle.std.proofs.Common.{◌∙◌, sym, arith}
use Rattle.command_words.proofs.OptionSteps.{found_here, not_here, nowhere}
use Rattle.command_words.proofs.options.value_behind.Goals as goal

pub returns-then-eq : goal.returns-then-eq
returns-then-eq c = found_here c.args.option.now c.args.words.now c.loop-place.place c.loop-place.invariant c.loop-place-test.true (sym c.eq.ensures ∙ c.if-eq.true)

pub loop-place-preserved : goal.loop-place-preserved
loop-place-preserved c = not_here c.args.option.now c.args.words.now c.loop-place.place c.loop-place.invariant c.loop-place-test.true (sym c.eq.ensures ∙ c.if-eq.false)

pub returns : goal.returns
returns c = nowhere c.args.option.now c.args.words.now c.loop-place.place c.loop-place.invariant (omega (arith, c.loop-place-test.false))
