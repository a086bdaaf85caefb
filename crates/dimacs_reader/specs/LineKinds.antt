-- Kinds of lines.
use Rattle.std.specs.Prelude.{ℕ, List, [], ◌∷◌, if◌then◌else◌, slice_index, ◌==◌}
use Rattle.lk_model.specs.Texts.Lines.{Piece, first_place}

-- What a line is: a blank line or a comment, an end mark, a problem line, or numbers, or whatever stands in their place. Beside
-- a kind that counts stands the number in the text of the line's first byte that is no blank.
pub data LineKind : Type 0 where
  Skipped : LineKind
  EndMark : ℕ → LineKind
  Problem : ℕ → LineKind
  Numbers : ℕ → LineKind

-- the kind by the first byte that is no blank, and its place
abbrev pub kind_at : ℕ → ℕ → LineKind
kind_at byte first = if byte == 37 then EndMark first
    else if byte == 99 then Skipped
    else if byte == 112 then Problem first
    else Numbers first

-- the kind of a line with these words
abbrev pub kind_by : List Piece → LineKind
kind_by [] = Skipped
kind_by (word ∷ words) = kind_at (slice_index word.bytes 0) (first_place word)
