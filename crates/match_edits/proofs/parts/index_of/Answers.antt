use Rattle.std.proofs.lemmas.Bool.{false_from_ne_true}
use Rattle.lk_model.specs.Lists.{among}
use Rattle.match_edits.proofs.parts.index_of.Goals as goal
use Rattle.lk_model.proofs.Places.{never_missing}

pub returns-in-Err-clause-none : goal.returns-in-Err-clause-none
returns-in-Err-clause-none c = false_from_ne_true (among c.args.numbers.now c.args.number)
    (λ there. never_missing c.requires.0 c.args.numbers.now c.args.number c.in-Err.field-0 c.requires.1 there c.in-Err.ensures.position)
