use Rattle.round_text.proofs.PrintedSteps.{step_behind}
use Rattle.round_text.proofs.print_rounds.put_step.Goals as goal

pub returns : goal.returns
returns c = rw (← step_behind _ _ _ c.args.step.now c.in_ok-put_keyword.ensures c.in_ok-put_step_words.ensures) c.put_closing_zero.ensures
