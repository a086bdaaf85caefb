use Rattle.bipartite_match.proofs.exchange.index_of.Goals as goal
use Rattle.lk_model.proofs.Places.{never_missing}

pub returns-in-Err-clause-inside : goal.returns-in-Err-clause-inside
returns-in-Err-clause-inside c = absurd (never_missing c.requires.rises.0 c.args.positions.now c.args.pos c.in-Err.index c.requires.rises.1 c.requires.there c.in-Err.ensures.position)

pub returns-in-Err-clause-is : goal.returns-in-Err-clause-is
returns-in-Err-clause-is c = absurd (never_missing c.requires.rises.0 c.args.positions.now c.args.pos c.in-Err.index c.requires.rises.1 c.requires.there c.in-Err.ensures.position)
