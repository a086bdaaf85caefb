use Rattle.cert_text.proofs.ReadLaws.{of_one_document, stops_nowhere}
use Rattle.cert_text.proofs.laws.document_text_law.Goals as goal

pub returns-clause-once : goal.returns-clause-once
returns-clause-once c = of_one_document

pub returns-clause-never : goal.returns-clause-never
returns-clause-never c = stops_nowhere
