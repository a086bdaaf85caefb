use Rattle.answer_text.proofs.CoreLineForms.{mus_rest}
use Rattle.answer_text.proofs.core_steps.is_format.Goals as goal

pub returns-in-Some : goal.returns-in-Some
returns-in-Some c = mus_rest c.args.line.now c.as_slice.result.now c.behind.result c.in-Some.rest c.eq.result c.in-Some.is c.behind.ensures c.as_slice.ensures c.eq.ensures
