use Rattle.std.proofs.Common.{subst}
use Rattle.std.proofs.lemmas.Result.{err_from_is_err_and}
use Rattle.cert_text.specs.Completing.{IsCompletedBy}
use Rattle.command_inputs.specs.LineTexts.{IsReadAs}
use Rattle.command_inputs.proofs.LineReads.{document_read, document_form, document_stops, document_text}
use Rattle.command_inputs.proofs.input.read_document.Goals as goal

pub returns-in_err-read-clause-stop : goal.returns-in_err-read-clause-stop
returns-in_err-read-clause-stop g c =
    let p = err_from_is_err_and c.from_residual-in_err-read.result c.from_residual-in_err-read.ensures.1 in
    rw (p.1, p.2) (document_text (g.H.Shelf.told c.args.shelf.now c.args.name.now) (g.H.Shelf.ailing c.read_by_lines.new.shelf) c.in_err-read.field-0.0 c.in_err-read.ensures.stop)

pub returns-in-Ok-clause-document : goal.returns-in-Ok-clause-document
returns-in-Ok-clause-document g c =
    let completes = IsCompletedBy c.in_ok-reader.reader.draft in
    let told = g.H.Shelf.told c.args.shelf.now c.args.name.now in
    document_read completes told c.in-Ok.document c.in_ok-reader.ensures.documents (subst (λ r. IsReadAs completes told r) c.in-Ok.is c.in_ok-read.ensures.read)

pub returns-in-Ok-clause-form : goal.returns-in-Ok-clause-form
returns-in-Ok-clause-form g c =
    let completes = IsCompletedBy c.in_ok-reader.reader.draft in
    let told = g.H.Shelf.told c.args.shelf.now c.args.name.now in
    document_form completes told c.in-Ok.document c.in_ok-reader.ensures.documents (subst (λ r. IsReadAs completes told r) c.in-Ok.is c.in_ok-read.ensures.read)

pub returns-in-Err-clause-stop : goal.returns-in-Err-clause-stop
returns-in-Err-clause-stop g c =
    let completes = IsCompletedBy c.in_ok-reader.reader.draft in
    let told = g.H.Shelf.told c.args.shelf.now c.args.name.now in
    rw c.from.ensures (document_stops completes told (g.H.Shelf.ailing c.read_by_lines.new.shelf) c.in-Err.stop c.in_ok-reader.ensures.documents (subst (λ r. IsReadAs completes told r) c.in-Err.is c.in_ok-read.ensures.read))
