use Rattle.std.proofs.Common.{◌≡◌, ◌∷◌, ◌∙◌, [], None, IfOk, subst}
use Rattle.lk_model.specs.Documents.Text.{text_of}
use Rattle.lk_model.specs.declared.document.Document.TheVariants.{Unfinished}
use Rattle.lk_model.specs.declared.document.OpenDocument.{OpenDocument}
use Rattle.reductions.specs.Founds.{open_document_of}
use Rattle.status_lines.specs.RunLines.{conflicts_line}
use Rattle.command_endings.proofs.solve.unfinished_round.Goals as goal

pub returns-in-Ok-clause-written : goal.returns-in-Ok-clause-written
returns-in-Ok-clause-written c =
    let document = c.open_document_of.ensures in
    let told : c.open_document_of.result ≡ open_document_of c.args.formula None c.args.conflicts (c.args.round ∷ []) = document.document ∙ (λ i. open_document_of c.args.formula None (c.get-learned.ensures.value i) (c.in-Ok.ensures i)) in
    subst (λ (d : OpenDocument). IfOk c.unfinished.result (λ e. e.written.items ≡ text_of (Unfinished d))) told c.unfinished.ensures.written

pub returns-in-Ok-clause-said : goal.returns-in-Ok-clause-said
returns-in-Ok-clause-said c =
    let document = c.open_document_of.ensures in
    let told : c.open_document_of.result ≡ open_document_of c.args.formula None c.args.conflicts (c.args.round ∷ []) = document.document ∙ (λ i. open_document_of c.args.formula None (c.get-learned.ensures.value i) (c.in-Ok.ensures i)) in
    subst (λ (d : OpenDocument). IfOk c.unfinished.result (λ e. e.said.items ≡ conflicts_line d.learned)) told c.unfinished.ensures.said
