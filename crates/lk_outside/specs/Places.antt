-- Where a reader is in one of several texts.
use Rattle.std.specs.Prelude.{ℕ, ◌<◌, ◌≤◌, List, [], length, slice_index_or, drop}
use Rattle.lk_outside.specs.declared.files.Place.{Place}

-- the bytes of the entry at that index
abbrev pub text_at : List (List ℕ × List ℕ) → ℕ → List ℕ
text_at files k = (slice_index_or files k ([], [])).1

-- what is not yet read of the text at a place
abbrev pub rest_from : List (List ℕ × List ℕ) → Place → List ℕ
rest_from files p = drop p.read (text_at files p.file)

-- a place of one of the texts, not past its end
pub record IsIn (files : List (List ℕ × List ℕ)) (p : Place) : Type 0 where
  pub among : p.file < length files
  pub within : p.read ≤ length (text_at files p.file)
