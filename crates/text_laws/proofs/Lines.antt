-- The lines of a text that is made of lines of words: comments, and lines that count.
use Rattle.std.proofs.Common.{◌≡◌, ℕ, ◌+◌, ◌∙◌, Bool, true, false, not, cond, ◌&&◌, ◌||◌, ◌==◌, List, [], ◌∷◌, ◌++◌, length, filter, refl, ap, append_assoc, flat_map, take_while}
use Rattle.std.specs.Prelude.{slice_index}
use Rattle.std.specs.List.{slice_split, list_all, join_with_byte}
use Rattle.std.proofs.lemmas.Bool.{not-true, eqb-true}
use Rattle.std.proofs.lemmas.List.{map-append}
use Rattle.std.proofs.lemmas.List.Sums.{take_while-cons}
use Rattle.std.proofs.lemmas.List.Splits.{slice_split_at}
use Rattle.lk_model.specs.Lists.{is_empty}
use Rattle.lk_model.specs.Texts.Lines.{Piece, Word, is_newline, placed_after, words_of, texts}
use Rattle.lk_model.specs.Texts.PlainText.{line}
use Rattle.lk_model.specs.Texts.Dimacs.{first_byte, is_blank_line, is_comment, is_end_mark}
use Rattle.lk_model.proofs.Booleans.{and_true}
use Rattle.text_laws.proofs.Words.{are_words, piece, line_words, no_newline}

-- a line of words of which the first begins with `c`
abbrev pub is_comment_line : List Word → Bool
is_comment_line [] = false
is_comment_line (word ∷ words) = slice_index word 0 == 99 && are_words (word ∷ words)

-- a line of words of which the first begins with neither `c` nor `%`
abbrev pub is_content_line : List Word → Bool
is_content_line [] = false
is_content_line (word ∷ words) = not (slice_index word 0 == 99) && not (slice_index word 0 == 37) && are_words (word ∷ words)

-- the bytes of a line, without its byte 10
abbrev pub joined : List Word → List ℕ
joined words = join_with_byte 32 words

-- PIECES

-- the pieces before the first end mark that are neither blank nor comments
abbrev pub counted : List Piece → List Piece
counted pieces = filter (λ p. not (is_blank_line p || is_comment p)) (take_while (λ p. not (is_end_mark p)) pieces)

counted-cons : (p : Piece) (pieces : List Piece)
    → counted (p ∷ pieces) ≡ cond (not (is_end_mark p)) (cond (not (is_blank_line p || is_comment p)) (p ∷ counted pieces) (counted pieces)) []
counted-cons p pieces =
    ap (filter (λ q. not (is_blank_line q || is_comment q))) (take_while-cons (λ q. not (is_end_mark q)) p pieces) ∙ by (not (is_end_mark p))
  where
    by : (b : Bool) → filter (λ q. not (is_blank_line q || is_comment q)) (cond b (p ∷ take_while (λ q. not (is_end_mark q)) pieces) [])
        ≡ cond b (cond (not (is_blank_line p || is_comment p)) (p ∷ counted pieces) (counted pieces)) []
    by true = refl
    by false = refl

-- a piece by its words
first_by : (pieces : List Piece) (word : Word) (words : List Word) → texts pieces ≡ word ∷ words → first_byte pieces ≡ slice_index word 0
first_by [] word words e = absurd (let f : ⊥ = cc in f)
first_by (p ∷ pieces) word words e = let same : p.bytes ≡ word = cc in ap (λ (w : Word). slice_index w 0) same

some_by : (pieces : List Piece) (word : Word) (words : List Word) → texts pieces ≡ word ∷ words → is_empty pieces ≡ false
some_by [] word words e = absurd (let f : ⊥ = cc in f)
some_by (p ∷ pieces) word words e = refl

counted_comment : (p : Piece) (pieces : List Piece) (word : Word) (words : List Word) → texts (words_of p) ≡ word ∷ words
    → (slice_index word 0 == 99) ≡ true → counted (p ∷ pieces) ≡ counted pieces
counted_comment p pieces word words e c =
    let first = first_by (words_of p) word words e ∙ eqb-true (slice_index word 0) 99 c in
    let end : is_end_mark p ≡ false = ap (λ (b : ℕ). b == 37) first in
    let comment : is_comment p ≡ true = ap (λ (b : ℕ). b == 99) first in
    let blank : is_blank_line p ≡ false = some_by (words_of p) word words e in
    counted-cons p pieces ∙ rw (end, blank, comment) refl

counted_content : (p : Piece) (pieces : List Piece) (word : Word) (words : List Word) → texts (words_of p) ≡ word ∷ words
    → (slice_index word 0 == 99) ≡ false → (slice_index word 0 == 37) ≡ false → counted (p ∷ pieces) ≡ p ∷ counted pieces
counted_content p pieces word words e c m =
    let first = first_by (words_of p) word words e in
    let end : is_end_mark p ≡ false = ap (λ (b : ℕ). b == 37) first ∙ m in
    let comment : is_comment p ≡ false = ap (λ (b : ℕ). b == 99) first ∙ c in
    let blank : is_blank_line p ≡ false = some_by (words_of p) word words e in
    counted-cons p pieces ∙ rw (end, blank, comment) refl

-- LINES OF WORDS

-- the pieces of a text from a place on
abbrev pub pieces_after : ℕ → List ℕ → List Piece
pieces_after n text = placed_after n (slice_split is_newline text)

-- the first piece is the first line
pieces-line : (n : ℕ) (words : List Word) (text : List ℕ) → are_words words ≡ true
    → pieces_after n (line words ++ text) ≡ piece (joined words) (n + length (joined words)) ∷ pieces_after (n + length (joined words) + 1) text
pieces-line n words text h =
    ap (λ (bs : List ℕ). placed_after n (slice_split is_newline bs)) (append_assoc (joined words) (10 ∷ []) text)
    ∙ ap (placed_after n) (slice_split_at is_newline (joined words) 10 text (no_newline words h) refl)

-- the place after lines
abbrev pub behind : ℕ → List (List Word) → ℕ
behind n [] = n
behind n (words ∷ lines) = behind (n + length (joined words) + 1) lines

-- comments do not count
pub counted_behind : (n : ℕ) (lines : List (List Word)) (text : List ℕ) → list_all is_comment_line lines ≡ true
    → counted (pieces_after n (flat_map line lines ++ text)) ≡ counted (pieces_after (behind n lines) text)
counted_behind n [] text h = refl
counted_behind n ([] ∷ lines) text h = absurd (let f : ⊥ = cc in f)
counted_behind n ((word ∷ words) ∷ lines) text h =
    let p = and_true (is_comment_line (word ∷ words)) (list_all is_comment_line lines) h in
    let q = and_true (slice_index word 0 == 99) (are_words (word ∷ words)) p.0 in
    let size = length (joined (word ∷ words)) in
    let rest = flat_map line lines ++ text in
    ap (λ (bs : List ℕ). counted (pieces_after n bs)) (append_assoc (line (word ∷ words)) (flat_map line lines) text)
    ∙ ap counted (pieces-line n (word ∷ words) rest q.1)
    ∙ counted_comment (piece (joined (word ∷ words)) (n + size)) (pieces_after (n + size + 1) rest) word words (line_words word words (n + size) q.1) q.0
    ∙ counted_behind (n + size + 1) lines text p.1

-- lines as pieces
abbrev pub placed_lines : ℕ → List (List Word) → List Piece
placed_lines n [] = []
placed_lines n (words ∷ lines) = piece (joined words) (n + length (joined words)) ∷ placed_lines (n + length (joined words) + 1) lines

-- lines that count are the pieces that count
pub counted_lines : (n : ℕ) (lines : List (List Word)) → list_all is_content_line lines ≡ true
    → counted (pieces_after n (flat_map line lines)) ≡ placed_lines n lines
counted_lines n [] h = refl
counted_lines n ([] ∷ lines) h = absurd (let f : ⊥ = cc in f)
counted_lines n ((word ∷ words) ∷ lines) h =
    let p = and_true (is_content_line (word ∷ words)) (list_all is_content_line lines) h in
    let r = and_true (not (slice_index word 0 == 99) && not (slice_index word 0 == 37)) (are_words (word ∷ words)) p.0 in
    let q = and_true (not (slice_index word 0 == 99)) (not (slice_index word 0 == 37)) r.0 in
    let size = length (joined (word ∷ words)) in
    let rest = flat_map line lines in
    let here = piece (joined (word ∷ words)) (n + size) in
    ap counted (pieces-line n (word ∷ words) rest r.1)
    ∙ counted_content here (pieces_after (n + size + 1) rest) word words (line_words word words (n + size) r.1)
    (not-true (slice_index word 0 == 99) q.0) (not-true (slice_index word 0 == 37) q.1)
    ∙ ap (λ (ps : List Piece). here ∷ ps) (counted_lines (n + size + 1) lines p.1)

-- their words
pub placed_words : (n : ℕ) (lines : List (List Word)) → list_all is_content_line lines ≡ true
    → texts (flat_map words_of (placed_lines n lines)) ≡ flat_map (λ words. words) lines
placed_words n [] h = refl
placed_words n ([] ∷ lines) h = absurd (let f : ⊥ = cc in f)
placed_words n ((word ∷ words) ∷ lines) h =
    let p = and_true (is_content_line (word ∷ words)) (list_all is_content_line lines) h in
    let r = and_true (not (slice_index word 0 == 99) && not (slice_index word 0 == 37)) (are_words (word ∷ words)) p.0 in
    let size = length (joined (word ∷ words)) in
    let here = piece (joined (word ∷ words)) (n + size) in
    let others = placed_lines (n + size + 1) lines in
    map-append (λ (x : Piece). x.bytes) (words_of here) (flat_map words_of others)
    ∙ ap (λ (ws : List Word). ws ++ texts (flat_map words_of others)) (line_words word words (n + size) r.1)
    ∙ ap (λ (ws : List Word). (word ∷ words) ++ ws) (placed_words (n + size + 1) lines p.1)
