-- Documents whose first lines are those that were read.
use Rattle.std.specs.Prelude.{◌≡◌, ℕ, List, ◌++◌, map, IsTrue, Some}
use Rattle.lk_model.specs.Held.Growing.{Growing}
use Rattle.lk_model.specs.Texts.PlainText.{line}
use Rattle.lk_model.specs.Documents.Form.{is_in_form}
use Rattle.lk_model.specs.Documents.Text.{text_lines}
use Rattle.lk_model.specs.declared.document.Document.{Document}
use Rattle.cert_text.specs.declared.draft.Draft.{Draft}
use Rattle.cert_text.specs.Drafts.{lines_read, fresh_draft, run}
use Rattle.formula_text.specs.FormulaLines.{IsReady}

-- the lines of the document are those that were read, and these
pub record IsCompletedBy (d : Draft) (document : Document) (more : List (List ℕ)) : Type 0 where
  pub form : IsTrue (is_in_form document)
  pub lines : text_lines document ≡ map line (lines_read d) ++ more

-- the draft is what its lines lead to, and the clause is ready for one more
pub record IsRead (d : Draft) (growing : Growing) : Type 0 where
  pub runs : run fresh_draft (lines_read d) ≡ Some d
  pub ready : IsReady d.vars growing
