-- What an edit leaves to do, as a law.
use Rattle.bipartite_match.specs.Covers.{CoverLaw}
use Rattle.match_edits.specs.EditLaws.{EditLaws}
use Rattle.match_edits.proofs.Grown.{added}
use Rattle.match_edits.proofs.Shrunk.{unmatched_removed, matched_removed}

pub edited : CoverLaw → EditLaws
edited law = record { added = added law; unmatched_removed = unmatched_removed law; matched_removed = matched_removed law }
