use Rattle.answer_text.proofs.WrittenCores.{last_taken}
use Rattle.answer_text.proofs.core_draft.last_round.Goals as goal

pub returns : goal.returns
returns c = last_taken c.args.rounds c.pop.new.self c.pop.result c.pop.ensures.items c.pop.ensures.some
