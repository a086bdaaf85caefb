-- Words without a blank, and the words of a line that is made of them.
use Rattle.std.proofs.Common.{◌≡◌, ℕ, ◌∙◌, Bool, true, false, not, ◌&&◌, List, [], ◌∷◌, filter, All, refl, ap, arith, nat_lt}
use Rattle.std.specs.List.{slice_split, list_all, join_with_byte}
use Rattle.std.proofs.lemmas.Bool.{and_from, ltb-true, ne_eqb}
use Rattle.std.proofs.lemmas.List.Folds.{list_all-append}
use Rattle.std.proofs.lemmas.List.Splits.{slice_split_at, slice_split_none}
use Rattle.lk_model.specs.Lists.{is_empty}
use Rattle.lk_model.specs.Texts.Lines.{Piece, Word, is_newline, is_blank, words_of, texts}
use Rattle.lk_model.proofs.Booleans.{and_true}
use Rattle.lk_model.proofs.ListTests.{none_pass, all_weaker}
use Rattle.lk_model.proofs.Pieces.{words_by}

-- no byte is a blank or a byte 10
abbrev pub is_solid : List ℕ → Bool
is_solid bytes = list_all (nat_lt 32) bytes

abbrev pub is_word : Word → Bool
is_word word = not (is_empty word) && is_solid word

abbrev pub are_words : List Word → Bool
are_words words = list_all is_word words

abbrev pub piece : List ℕ → ℕ → Piece
piece bytes last = record { bytes = bytes; last = last }

-- BYTES

not_blank : (b : ℕ) → nat_lt 32 b ≡ true → is_blank b ≡ false
not_blank b h =
    let low = ltb-true 32 b h in
    rw (ne_eqb b 32 (λ e. omega (arith, e, low)), ne_eqb b 9 (λ e. omega (arith, e, low)), ne_eqb b 13 (λ e. omega (arith, e, low))) refl

not_newline : (b : ℕ) → nat_lt 32 b ≡ true → is_newline b ≡ false
not_newline b h = let low = ltb-true 32 b h in ne_eqb b 10 (λ e. omega (arith, e, low))

no_blank : (word : Word) → is_word word ≡ true → All (λ b. is_blank b ≡ false) word
no_blank word h =
    let solid = (and_true (not (is_empty word)) (is_solid word) h).1 in
    none_pass is_blank word (all_weaker (nat_lt 32) (λ b. not (is_blank b)) (λ b e. ap not (not_blank b e)) word solid)

-- THE WORDS OF A LINE

split_words : (word : Word) (words : List Word) → are_words (word ∷ words) ≡ true → slice_split is_blank (join_with_byte 32 (word ∷ words)) ≡ word ∷ words
split_words word [] h = slice_split_none is_blank word (no_blank word (and_true (is_word word) true h).0)
split_words word (next ∷ words) h =
    let p = and_true (is_word word) (are_words (next ∷ words)) h in
    slice_split_at is_blank word 32 (join_with_byte 32 (next ∷ words)) (no_blank word p.0) refl ∙ ap (λ (ws : List Word). word ∷ ws) (split_words next words p.1)

all_some : (words : List Word) → are_words words ≡ true → filter (λ word. not (is_empty word)) words ≡ words
all_some [] h = refl
all_some (word ∷ words) h =
    let p = and_true (is_word word) (are_words words) h in
    rw ((and_true (not (is_empty word)) (is_solid word) p.0).0) (ap (λ (ws : List Word). word ∷ ws) (all_some words p.1))

-- a line that is joined of words has these words
pub line_words : (word : Word) (words : List Word) (last : ℕ) → are_words (word ∷ words) ≡ true
    → texts (words_of (piece (join_with_byte 32 (word ∷ words)) last)) ≡ word ∷ words
line_words word words last h =
    words_by (piece (join_with_byte 32 (word ∷ words)) last) ∙ ap (filter (λ w. not (is_empty w))) (split_words word words h) ∙ all_some (word ∷ words) h

-- and no byte 10
abbrev is_one_line : List ℕ → Bool
is_one_line bytes = list_all (λ b. not (is_newline b)) bytes

one_word : (word : Word) → is_word word ≡ true → is_one_line word ≡ true
one_word word h =
    all_weaker (nat_lt 32) (λ b. not (is_newline b)) (λ b e. ap not (not_newline b e)) word (and_true (not (is_empty word)) (is_solid word) h).1

one_line : (words : List Word) → are_words words ≡ true → is_one_line (join_with_byte 32 words) ≡ true
one_line [] h = refl
one_line (word ∷ []) h = one_word word (and_true (is_word word) true h).0
one_line (word ∷ next ∷ words) h =
    let p = and_true (is_word word) (are_words (next ∷ words)) h in
    list_all-append (λ b. not (is_newline b)) word (32 ∷ join_with_byte 32 (next ∷ words))
    ∙ and_from (is_one_line word) (is_one_line (join_with_byte 32 (next ∷ words))) (one_word word p.0) (one_line (next ∷ words) p.1)

pub no_newline : (words : List Word) → are_words words ≡ true → All (λ b. is_newline b ≡ false) (join_with_byte 32 words)
no_newline words h = none_pass is_newline (join_with_byte 32 words) (one_line words h)
