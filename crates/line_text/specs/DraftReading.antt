-- Readers of lines that keep a draft of what they read: what a line of words leads to, and which lines led to the draft.
use Rattle.std.specs.Prelude.{◌≡◌, ℕ, Bool, List, [], ◌∷◌, ◌++◌, map, IsTrue, Option, Some, option_and_then}
use Rattle.lk_model.specs.Texts.Lines.{Word}
use Rattle.lk_model.specs.Texts.PlainText.{line}

-- Drafts of type D, and texts of the values of type V that are in form, by their lines.
pub record DraftReader (D V : Type 0) : Type 0 where
  -- of which no line was read
  pub fresh : D
  -- what a line of these words leads to, if one may come next
  pub next : D → List Word → Option D
  -- the lines that were read
  pub lines : D → List (List Word)
  -- the value, if all its lines were read
  pub finished : D → Option V
  -- the value is in form
  pub is_value : V → Bool
  pub value_lines : V → List (List Word)

-- what these lines lead to, one after another
abbrev pub run : {D V : Type 0} → DraftReader D V → D → List (List Word) → Option D
run r d [] = Some d
run r d (words ∷ lines) = option_and_then (λ e. run r e lines) (r.next d words)

-- the lines of the value, which is in form, are those that were read, and these
pub record IsCompletedBy {D V : Type 0} (r : DraftReader D V) (d : D) (value : V) (more : List (List ℕ)) : Type 0 where
  pub form : IsTrue (r.is_value value)
  pub lines : map line (r.value_lines value) ≡ map line (r.lines d) ++ more
