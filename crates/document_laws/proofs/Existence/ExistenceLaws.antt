-- All of the law.
use Rattle.document_laws.specs.ExistenceLaw.{ExistenceLaw}
use Rattle.document_laws.proofs.Existence.PureExists.{pure_exists}
use Rattle.document_laws.proofs.Existence.MatchingExists.{matching_exists}
use Rattle.document_laws.proofs.Existence.GeneralExists.{general_exists}

pub existence_law : ExistenceLaw
existence_law = record { pure = pure_exists; matching = matching_exists; general = general_exists }
