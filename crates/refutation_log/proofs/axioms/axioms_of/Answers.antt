use Rattle.refutation_log.specs.Derivation.{first_number}
use Rattle.refutation_log.proofs.ChainNames.{chains_lower}
use Rattle.refutation_log.proofs.axioms.axioms_of.Goals as goal

pub positions_used-requires-clause-names : goal.positions_used-requires-clause-names
positions_used-requires-clause-names c =
    let steps = c.args.round.now.steps in
    chains_lower c.args.over.now (first_number steps) steps c.requires.past c.requires.numbers c.requires.chains
