use Rattle.bipartite_match.specs.Behind.{matching_of}
use Rattle.match_edits.proofs.Holding.{can_augment, restored_live}
use Rattle.match_edits.proofs.parts.restore.Goals as goal

pub augment-requires : goal.augment-requires
augment-requires g c =
    let w = c.requires in
    record { can = (w.0, w.1, can_augment c.args.held.now w.0 (matching_of w.1 c.args.pairs.now c.args.marks.now) c.args.from w.2) }

pub returns-clause-live : goal.returns-clause-live
returns-clause-live g c = restored_live c.args.held.now c.args.from c.args.pairs.now c.augment.new.self c.args.marks.now c.augment.new.marks c.in_ok-augment.field-0 c.in_ok-augment.ensures.outcome
