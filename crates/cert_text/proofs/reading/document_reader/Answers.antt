use Rattle.cert_text.proofs.ReadLaws.{can_begin, reads_documents}
use Rattle.cert_text.proofs.reading.document_reader.Goals as goal

pub returns-clause-completed : goal.returns-clause-completed
returns-clause-completed c = can_begin c.in_ok-fresh.field-0 c.in_ok-fresh.ensures

pub returns-clause-documents : goal.returns-clause-documents
returns-clause-documents c = reads_documents c.in_ok-fresh.field-0 c.in_ok-fresh.ensures
