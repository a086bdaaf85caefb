-- What a line adds, by its kind, to the lines that count and to the place at the end.
use Rattle.std.proofs.Common.{◌≡◌, ℕ, suc, ◌+◌, ◌<◌, ◌≤◌, Bool, true, false, not, cond, ◌||◌, ◌==◌, List, [], ◌∷◌, take, refl, ◌∙◌, ap, arith, Some}
use Rattle.std.specs.Prelude.{filter, take_while, find, slice_get, slice_index, unwrap_or, option_map}
use Rattle.std.specs.List.{prefix_len}
use Rattle.lk_model.specs.Lists.{is_empty}
use Rattle.lk_model.specs.Texts.Lines.{Piece, first_place, words_of}
use Rattle.lk_model.specs.Texts.Dimacs.{first_byte, is_blank_line, is_comment, is_problem, is_end_mark}
use Rattle.lk_model.specs.Texts.Fault.{first_of_line}
use Rattle.dimacs_reader.specs.LineKinds.{LineKind, Skipped, EndMark, Problem, Numbers, kind_by}
use Rattle.dimacs_reader.proofs.Placing.{AreWords, first_above, first_within}

-- the lines that count
abbrev pub counted_of : List Piece → List Piece
counted_of lines = filter (λ line. not (is_blank_line line || is_comment line)) (take_while (λ line. not (is_end_mark line)) lines)

-- the place at the end of the lines, after which over is the next place
abbrev pub end_of : List Piece → ℕ → ℕ
end_of lines over = unwrap_or (option_map first_of_line (find is_end_mark lines)) over

-- BY TESTS

-- the place of the first byte of a line with these words that is no blank
abbrev first_place_of : List Piece → ℕ → ℕ
first_place_of words last = unwrap_or (option_map first_place (slice_get words 0)) last

-- what a kind says of three tests of a line: is it an end mark, is it skipped, is it a problem line
abbrev Tests : LineKind → Bool → Bool → Bool → ℕ → Type 0
Tests (EndMark first) end skipped problem place = (end ≡ true) × (place ≡ first)
Tests Skipped end skipped problem place = (end ≡ false) × (skipped ≡ true)
Tests (Problem first) end skipped problem place = (end ≡ false) × (skipped ≡ false) × (problem ≡ true) × (place ≡ first)
Tests (Numbers first) end skipped problem place = (end ≡ false) × (skipped ≡ false) × (problem ≡ false) × (place ≡ first)

-- a kind by the three tests
kind_tests : (end skipped problem : Bool) (place : ℕ)
    → Tests (cond end (EndMark place) (cond skipped Skipped (cond problem (Problem place) (Numbers place)))) end skipped problem place
kind_tests true skipped problem place = (refl, refl)
kind_tests false true problem place = (refl, refl)
kind_tests false false true place = (refl, refl, refl, refl)
kind_tests false false false place = (refl, refl, refl, refl)

-- what the kind of a line says is so
tests : (words : List Piece) (last : ℕ)
    → Tests (kind_by words) (first_byte words == 37) (is_empty words || first_byte words == 99) (first_byte words == 112) (first_place_of words last)
tests [] last = (refl, refl)
tests (word ∷ words) last = kind_tests (slice_index word.bytes 0 == 37) (slice_index word.bytes 0 == 99) (slice_index word.bytes 0 == 112) (first_place word)

-- BY KINDS

-- an end mark ends the lines
counted_end : (line : Piece) (lines : List Piece) → is_end_mark line ≡ true → counted_of (line ∷ lines) ≡ []
counted_end line lines e =
    let k = prefix_len (λ x. not (is_end_mark x)) lines in
    ap (λ (b : Bool). filter (λ x. not (is_blank_line x || is_comment x)) (take (cond (not b) (1 + k) 0) (line ∷ lines))) e

-- other lines do not
counted_line : (line : Piece) (lines : List Piece) → is_end_mark line ≡ false
    → counted_of (line ∷ lines) ≡ cond (not (is_blank_line line || is_comment line)) (line ∷ counted_of lines) (counted_of lines)
counted_line line lines e =
    let k = prefix_len (λ x. not (is_end_mark x)) lines in
    let more : 1 + k ≡ suc k = omega arith in
    ap (λ (b : Bool). filter (λ x. not (is_blank_line x || is_comment x)) (take (cond (not b) (1 + k) 0) (line ∷ lines))) e
    ∙ ap (λ (n : ℕ). filter (λ x. not (is_blank_line x || is_comment x)) (take n (line ∷ lines))) more

-- a line that is skipped adds nothing, and another one itself
counted_skipped : (line : Piece) (lines : List Piece) → is_end_mark line ≡ false → (is_blank_line line || is_comment line) ≡ true → counted_of (line ∷ lines) ≡ counted_of lines
counted_skipped line lines e s = counted_line line lines e ∙ ap (λ (b : Bool). cond (not b) (line ∷ counted_of lines) (counted_of lines)) s

counted_more : (line : Piece) (lines : List Piece) → is_end_mark line ≡ false → (is_blank_line line || is_comment line) ≡ false
    → counted_of (line ∷ lines) ≡ line ∷ counted_of lines
counted_more line lines e s = counted_line line lines e ∙ ap (λ (b : Bool). cond (not b) (line ∷ counted_of lines) (counted_of lines)) s

-- the place at the end is that of the first end mark
end_here : (line : Piece) (lines : List Piece) (over : ℕ) → is_end_mark line ≡ true → end_of (line ∷ lines) over ≡ first_of_line line
end_here line lines over e = ap (λ (b : Bool). unwrap_or (option_map first_of_line (cond b (Some line) (find is_end_mark lines))) over) e

end_later : (line : Piece) (lines : List Piece) (over : ℕ) → is_end_mark line ≡ false → end_of (line ∷ lines) over ≡ end_of lines over
end_later line lines over e = ap (λ (b : Bool). unwrap_or (option_map first_of_line (cond b (Some line) (find is_end_mark lines))) over) e

-- what a line of a kind adds to the lines after it
abbrev pub Adds : LineKind → Piece → List Piece → ℕ → Type 0
Adds (EndMark first) line lines over = (counted_of (line ∷ lines) ≡ []) × (end_of (line ∷ lines) over ≡ first)
Adds Skipped line lines over = (counted_of (line ∷ lines) ≡ counted_of lines) × (end_of (line ∷ lines) over ≡ end_of lines over)
Adds (Problem first) line lines over =
    (counted_of (line ∷ lines) ≡ line ∷ counted_of lines) × (end_of (line ∷ lines) over ≡ end_of lines over)
    × (is_problem line ≡ true) × (first_of_line line ≡ first)
Adds (Numbers first) line lines over =
    (counted_of (line ∷ lines) ≡ line ∷ counted_of lines) × (end_of (line ∷ lines) over ≡ end_of lines over)
    × (is_problem line ≡ false) × (first_of_line line ≡ first)

-- each kind by its tests
adds_by : (kind : LineKind) (line : Piece) (lines : List Piece) (over : ℕ)
    → Tests kind (is_end_mark line) (is_blank_line line || is_comment line) (is_problem line) (first_of_line line) → Adds kind line lines over
adds_by (EndMark first) line lines over t = (counted_end line lines t.0, end_here line lines over t.0 ∙ t.1)
adds_by Skipped line lines over t = (counted_skipped line lines t.0 t.1, end_later line lines over t.0)
adds_by (Problem first) line lines over t = (counted_more line lines t.0 t.1, end_later line lines over t.0, t.2, t.3)
adds_by (Numbers first) line lines over t = (counted_more line lines t.0 t.1, end_later line lines over t.0, t.2, t.3)

-- what a line adds
pub adds : (line : Piece) (lines : List Piece) (over : ℕ) → Adds (kind_by (words_of line)) line lines over
adds line lines over = adds_by (kind_by (words_of line)) line lines over (tests (words_of line) line.last)

-- PLACES

-- the place beside a kind is after one place, and at most the other
abbrev pub IsPlaced : ℕ → LineKind → ℕ → Type 0
IsPlaced n (EndMark first) end = (n < first) × (first ≤ end)
IsPlaced n Skipped end = n ≤ end
IsPlaced n (Problem first) end = (n < first) × (first ≤ end)
IsPlaced n (Numbers first) end = (n < first) × (first ≤ end)

-- the kind of a line has a place in the line
pub kind_placed : (n : ℕ) (words : List Piece) (end : ℕ) → AreWords n words end → IsPlaced n (kind_by words) end
kind_placed n [] end a = a
kind_placed n (word ∷ words) end a =
    placed_by (slice_index word.bytes 0 == 37) (slice_index word.bytes 0 == 99) (slice_index word.bytes 0 == 112) (first_above n word words end a) (first_within n word words end a)
  where
    placed_by : (mark skipped problem : Bool) → n < first_place word → first_place word ≤ end
        → IsPlaced n (cond mark (EndMark (first_place word)) (cond skipped Skipped (cond problem (Problem (first_place word)) (Numbers (first_place word))))) end
    placed_by true skipped problem h k = (h, k)
    placed_by false true problem h k = omega (arith, h, k)
    placed_by false false true h k = (h, k)
    placed_by false false false h k = (h, k)
