use Rattle.cert_text.specs.Completing.{IsCompletedBy}
use Rattle.cert_text.proofs.ReadLaws.{if_text, if_stop}
use Rattle.cert_text.proofs.reading.read.Goals as goal

pub returns-clause-document : goal.returns-clause-document
returns-clause-document c =
    if_text (IsCompletedBy c.in_ok-document_reader.field-0.draft) c.args.bytes.now c.read_lines.result c.in_ok-document_reader.ensures.documents c.read_lines.ensures.value

pub returns-clause-stop : goal.returns-clause-stop
returns-clause-stop c =
    if_stop (IsCompletedBy c.in_ok-document_reader.field-0.draft) c.args.bytes.now c.read_lines.result c.in_ok-document_reader.ensures.documents c.read_lines.ensures.stop
