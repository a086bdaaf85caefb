-- What is read of a text, and laws over the texts of documents.
use Rattle.std.specs.Prelude.{◌≡◌, ℕ, List}
use Rattle.lk_model.specs.Documents.Reading.{IsTextOfDocument, StopsAt}
use Rattle.lk_model.specs.declared.document.Document.{Document}
use Rattle.line_text.specs.LineReading.{Grammar, IsReadBy, IsAdmitted, IsStopOf}
use Rattle.lk_model.specs.declared.verdict.ReadStop.{ReadStop}
use Rattle.lk_model.specs.declared.verdict.ReadStop.TheVariants.{Line, OutOfMemory}

-- the stop is at that line; memory may run out anywhere
abbrev pub IsStopAt : List ℕ → ReadStop → Type 0
IsStopAt bytes (Line line) = StopsAt bytes line
IsStopAt bytes OutOfMemory = Unit {0}

-- the texts of a reader's lines are those of documents, and so are its stops
pub record ReadsDocuments (Completes : Grammar Document) : Type 0 where
  pub text : (bytes : List ℕ) (d : Document) → IsReadBy Completes bytes d → IsTextOfDocument bytes d
  pub stop : (bytes : List ℕ) (stop : ReadStop) → IsStopOf (IsAdmitted Completes) bytes stop → IsStopAt bytes stop

-- a text is that of one document at most
abbrev pub IsOfOneDocument : Type 0
IsOfOneDocument = (bytes : List ℕ) (d e : Document) → IsTextOfDocument bytes d → IsTextOfDocument bytes e → d ≡ e

-- a document has one text
abbrev pub HasOneText : Type 0
HasOneText = (a b : List ℕ) (d : Document) → IsTextOfDocument a d → IsTextOfDocument b d → a ≡ b

-- the text of a document stops nowhere
abbrev pub StopsNowhere : Type 0
StopsNowhere = (bytes : List ℕ) (d : Document) (line : ℕ) → IsTextOfDocument bytes d → StopsAt bytes line → ⊥
