use Rattle.std.proofs.Common.{rules}
use Rattle.refutation_log.specs.Flagged.{is_flagged}
use Rattle.refutation_log.proofs.Sorting.{filter_from_turns}
use Rattle.refutation_log.proofs.chain_clause.keep_flagged.Goals as goal

pub returns : goal.returns
returns c =
    filter_from_turns _ (is_flagged c.args.flags.now) _ (λ x b t y r. search rules) c.args.came.now.items c.retain.new.self.items c.retain.ensures.filtered
