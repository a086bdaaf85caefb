use Rattle.std.proofs.Common.{IsTrue}
use Rattle.std.proofs.lemmas.Result.{IfOk-weaker}
use Rattle.lk_model.specs.Documents.Form.{is_in_form}
use Rattle.lk_model.specs.Documents.Reading.{IsTextOfDocument}
use Rattle.lk_model.specs.declared.document.Document.{Document}
use Rattle.test_commands.proofs.documents.document_of.Goals as goal

pub returns : goal.returns
returns c = IfOk-weaker c.read.result (IsTextOfDocument c.args.bytes.now) (λ (d : Document). IsTrue (is_in_form d)) (λ d t. t.form) c.read.ensures.document
