-- Which texts are documents, and the first line at which a text stops being one; the same for any set of texts.
use Rattle.std.specs.Prelude.{◌≡◌, ℕ, ◌<◌, ◌==◌, List, [], ◌∷◌, take, IsTrue, if◌then◌else◌}
use Rattle.lk_model.specs.declared.document.Document.{Document}
use Rattle.lk_model.specs.Documents.Form.{is_in_form}
use Rattle.lk_model.specs.Documents.Text.{text_of, text_lines}

-- the bytes are the text of the document, which is in form
pub record IsTextOfDocument (bytes : List ℕ) (d : Document) : Type 0 where
  pub form : IsTrue (is_in_form d)
  pub text : bytes ≡ text_of d

-- a byte at the front of the first line
abbrev pub onto_first : ℕ → List (List ℕ) → List (List ℕ)
onto_first b [] = (b ∷ []) ∷ []
onto_first b (line ∷ lines) = (b ∷ line) ∷ lines

-- a text cut after each byte 10; the last line may lack it
unfoldable pub cut_lines : List ℕ → List (List ℕ)
cut_lines [] = []
cut_lines (b ∷ bs) = if b == 10 then (b ∷ []) ∷ cut_lines bs else onto_first b (cut_lines bs)

-- some document's text has the same first k lines, or fewer where it ends there as this text does
pub record GoesOn (bytes : List ℕ) (k : ℕ) : Type 0 where
  pub document : Document
  pub form : IsTrue (is_in_form document)
  pub same : take k (cut_lines bytes) ≡ take k (text_lines document)

-- The line is the first with which no document's text begins. A last line without byte 10 is such a line, since each line
-- of a document has one; so is the line after the last, if the text ends too early.
pub record StopsAt (bytes : List ℕ) (line : ℕ) : Type 0 where
  pub stops : GoesOn bytes line → ⊥
  pub first : (k : ℕ) → k < line → GoesOn bytes k

-- ANY SET OF TEXTS

-- some text of the set has the same first k lines, or fewer where it ends there as this text does
pub record GoesOnAs (Texts : List ℕ → Type 0) (bytes : List ℕ) (k : ℕ) : Type 0 where
  pub text : List ℕ
  pub admitted : Texts text
  pub same : take k (cut_lines bytes) ≡ take k (cut_lines text)

-- The line is the first with which no text of the set begins.
pub record StopsAs (Texts : List ℕ → Type 0) (bytes : List ℕ) (line : ℕ) : Type 0 where
  pub stops : GoesOnAs Texts bytes line → ⊥
  pub first : (k : ℕ) → k < line → GoesOnAs Texts bytes k

-- the texts of documents
abbrev pub IsDocumentText : List ℕ → Type 0
IsDocumentText bytes = (d : Document) × IsTextOfDocument bytes d
