use Rattle.cdcl_core.proofs.players.begin_others.Goals as goal

pub returns-in_ok-begin-2-clause-within : goal.returns-in_ok-begin-2-clause-within
returns-in_ok-begin-2-clause-within c = λ pause before. c.in_ok-begin-2.ensures.within pause (c.in_ok-begin.ensures.within pause before)
