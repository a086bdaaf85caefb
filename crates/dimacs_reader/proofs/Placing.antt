-- Where the words and the lines of a text stand.
use Rattle.std.proofs.Common.{◌≡◌, ℕ, ◌+◌, ◌-◌, ◌<◌, ◌≤◌, Bool, true, not, List, [], ◌∷◌, length, arith, inl, inr}
use Rattle.std.specs.Prelude.{filter}
use Rattle.std.specs.List.{slice_split, onto_first}
use Rattle.std.proofs.lemmas.Bool.{cases_Bool}
use Rattle.lk_model.specs.Lists.{is_empty}
use Rattle.lk_model.specs.Texts.Lines.{Piece, first_place, is_newline, is_blank, placed_after, lines_of, words_of}

-- PIECES

-- the pieces stand after one place, one after the other, and at most at the other place
abbrev pub ArePlaced : ℕ → List Piece → ℕ → Type 0
ArePlaced n [] end = n ≤ end
ArePlaced n (piece ∷ pieces) end = (n + length piece.bytes ≤ piece.last) × ArePlaced piece.last pieces end

-- the bytes of pieces, with one byte after each
abbrev pub room : List (List ℕ) → ℕ
room [] = 0
room (part ∷ parts) = length part + 1 + room parts

-- a byte more in the first piece
room_onto : (b : ℕ) (parts : List (List ℕ)) → 1 ≤ room parts → room (onto_first b parts) ≡ room parts + 1
room_onto b [] h = absurd (omega (arith, h))
room_onto b (part ∷ parts) h = omega arith

-- the pieces between the bytes of a kind take what the bytes take
pub room_split : (p : ℕ → Bool) (bytes : List ℕ) → room (slice_split p bytes) ≡ length bytes + 1
room_split p [] = omega arith
room_split p (b ∷ bytes) = elim (cases_Bool (p b)) [
  | inl e ↦ rw e (let h = room_split p bytes in omega (arith, h))
  | inr e ↦ rw e (let h = room_split p bytes in let g = room_onto b (slice_split p bytes) (omega (arith, h)) in omega (arith, h, g))
]

-- pieces stand where there is room for them
pub placed : (n before : ℕ) (parts : List (List ℕ)) (end : ℕ) → n ≤ before → n ≤ end → before + room parts ≤ end + 1 → ArePlaced n (placed_after before parts) end
placed n before [] end a b c = b
placed n before (part ∷ parts) end a b c =
    (omega (arith, a), placed (before + length part) (before + length part + 1) parts end (omega arith) (omega (arith, c)) (omega (arith, c)))

-- the pieces between the bytes of a kind stand within the bytes
pub placed_split : (p : ℕ → Bool) (before : ℕ) (bytes : List ℕ) → ArePlaced before (placed_after before (slice_split p bytes)) (before + length bytes)
placed_split p before bytes =
    let h = room_split p bytes in placed before before (slice_split p bytes) (before + length bytes) (omega arith) (omega arith) (omega (arith, h))

-- WORDS

-- the same of pieces that are not empty
abbrev pub AreWords : ℕ → List Piece → ℕ → Type 0
AreWords n [] end = n ≤ end
AreWords n (word ∷ words) end = (1 ≤ length word.bytes) × (n + length word.bytes ≤ word.last) × AreWords word.last words end

-- the place before may be less
pub words_less : (m n : ℕ) (words : List Piece) (end : ℕ) → m ≤ n → AreWords n words end → AreWords m words end
words_less m n [] end h a = let b = a in omega (arith, b, h)
words_less m n (word ∷ words) end h a = let b = a.1 in (a.0, omega (arith, b, h), a.2)

-- the places do not fall
pub words_order : (n : ℕ) (words : List Piece) (end : ℕ) → AreWords n words end → n ≤ end
words_order n [] end a = a
words_order n (word ∷ words) end a = let b = a.1 in let c = words_order word.last words end a.2 in omega (arith, b, c)

-- bytes that are not empty
some_byte : (bytes : List ℕ) → not (is_empty bytes) ≡ true → 1 ≤ length bytes
some_byte [] e = absurd (let f : ⊥ = cc in f)
some_byte (b ∷ bytes) e = omega arith

-- the pieces that are not empty are words
pub not_empty_words : (n : ℕ) (pieces : List Piece) (end : ℕ) → ArePlaced n pieces end → AreWords n (filter (λ word. not (is_empty word.bytes)) pieces) end
not_empty_words n [] end a = a
not_empty_words n (piece ∷ pieces) end a =
    let more = not_empty_words piece.last pieces end a.1 in
    let b = a.0 in
    elim (cases_Bool (not (is_empty piece.bytes))) [
      | inl e ↦ rw e (some_byte piece.bytes e, a.0, more)
      | inr e ↦ rw e (words_less n piece.last (filter (λ word. not (is_empty word.bytes)) pieces) end (omega (arith, b)) more)
    ]

-- the words of a line stand in the line
pub words_placed : (line : Piece) → length line.bytes ≤ line.last → AreWords (line.last - length line.bytes) (words_of line) line.last
words_placed line h =
    let end : line.last - length line.bytes + length line.bytes ≡ line.last = omega (arith, h) in
    let parts = rw end at (placed_split is_blank (line.last - length line.bytes) line.bytes) in
    not_empty_words (line.last - length line.bytes) (placed_after (line.last - length line.bytes) (slice_split is_blank line.bytes)) line.last parts

-- LINES

-- the lines stand after one place, with their words, one after the other, and at most at the other place
abbrev pub AreLines : ℕ → List Piece → ℕ → Type 0
AreLines n [] end = n ≤ end
AreLines n (line ∷ lines) end = AreWords n (words_of line) line.last × AreLines line.last lines end

-- pieces are lines with words of their own
pub lines_placed : (n : ℕ) (pieces : List Piece) (end : ℕ) → ArePlaced n pieces end → AreLines n pieces end
lines_placed n [] end a = a
lines_placed n (line ∷ lines) end a =
    let b = a.0 in
    (words_less n (line.last - length line.bytes) (words_of line) line.last (omega (arith, b)) (words_placed line (omega (arith, b))), lines_placed line.last lines end a.1)

-- the lines of a text stand in the text
pub text_placed : (text : List ℕ) → AreLines 0 (lines_of text) (length text)
text_placed text =
    let end : 0 + length text ≡ length text = omega arith in
    let parts = rw end at (placed_split is_newline 0 text) in
    lines_placed 0 (lines_of text) (length text) parts

-- the first place of the first word is after the place before, and in the line
pub first_above : (n : ℕ) (word : Piece) (words : List Piece) (end : ℕ) → AreWords n (word ∷ words) end → n < first_place word
first_above n word words end a = let b = a.1 in omega (arith, b)

pub first_within : (n : ℕ) (word : Piece) (words : List Piece) (end : ℕ) → AreWords n (word ∷ words) end → first_place word ≤ end
first_within n word words end a = let b = a.0 in let c = words_order word.last words end a.2 in omega (arith, b, c)
