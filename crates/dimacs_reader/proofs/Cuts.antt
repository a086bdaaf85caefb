-- Words and lines, one byte after the other.
use Rattle.std.proofs.Common.{◌≡◌, ℕ, ◌+◌, ◌-◌, ◌<◌, ◌∙◌, Bool, true, false, not, cond, ◌&&◌, List, [], ◌∷◌, ◌++◌, length, refl, ap, arith}
use Rattle.std.specs.Prelude.{filter}
use Rattle.std.specs.List.{slice_split, onto_first}
use Rattle.std.proofs.lemmas.List.Splits.{slice_split_at, slice_split_none, slice_split-cons_yes}
use Rattle.lk_model.specs.Lists.{is_empty}
use Rattle.lk_model.specs.Texts.Lines.{Piece, Word, is_blank, placed_after, words_of, texts}
use Rattle.lk_model.proofs.ListTests.{none_pass}
use Rattle.lk_model.proofs.Lists.{not_empty}
use Rattle.lk_model.proofs.Pieces.{texts_placed, texts_filter}
use Rattle.dimacs_reader.specs.Contents.{words_in, words_after, has_no_blank}
use Rattle.dimacs_reader.proofs.NumberLemmas.{split_part, HasPart}

abbrev pub piece : List ℕ → ℕ → Piece
piece bytes last = record { bytes = bytes; last = last }

-- the pieces that are words
abbrev words_among : List Piece → List Piece
words_among pieces = filter (λ word. not (is_empty word.bytes)) pieces

pub moved_words : (m n : ℕ) (bytes : List ℕ) → m ≡ n → words_after m bytes ≡ words_after n bytes
moved_words m n bytes e = ap (λ (k : ℕ). words_after k bytes) e

-- CUTS

-- bytes after one that does not cut them
pub split_on : (p : ℕ → Bool) (b : ℕ) (bs : List ℕ) (o : HasPart (slice_split p bs)) → p b ≡ false → slice_split p (b ∷ bs) ≡ (b ∷ o.0) ∷ o.1
split_on p b bs o e = ap (λ (t : Bool). cond t ([] ∷ slice_split p bs) (onto_first b (slice_split p bs))) e ∙ ap (onto_first b) o.2

-- WORDS WITH THEIR PLACES

-- a blank before the words
pub blank_first : (n b : ℕ) (bs : List ℕ) → is_blank b ≡ true → words_after n (b ∷ bs) ≡ words_after (n + 1) bs
blank_first n b bs h =
    ap (λ (parts : List (List ℕ)). words_among (placed_after n parts)) (slice_split-cons_yes is_blank b bs h) ∙ moved_words (n + 0 + 1) (n + 1) bs (omega arith)

-- a byte that begins a word
pub record Begins (n b : ℕ) (bs : List ℕ) : Type 0 where
  pub rest : List ℕ
  pub others : List Piece
  pub words : words_after n (b ∷ bs) ≡ piece (b ∷ rest) (n + length (b ∷ rest)) ∷ others

pub begins : (n b : ℕ) (bs : List ℕ) → is_blank b ≡ false → Begins n b bs
begins n b bs h =
    let o = split_part is_blank bs in
    record {
      rest = o.0;
      others = words_among (placed_after (n + length (b ∷ o.0) + 1) o.1);
      words = ap (λ (parts : List (List ℕ)). words_among (placed_after n parts)) (split_on is_blank b bs o h);
    }

-- a word, and then a blank or nothing
pub word_then : (n : ℕ) (word rest : List ℕ) → 0 < length word → has_no_blank word ≡ true → (b : ℕ) → is_blank b ≡ true
    → words_after n (word ++ b ∷ rest) ≡ piece word (n + length word) ∷ words_after (n + length word + 1) rest
word_then n word rest some h b blank =
    ap (λ (parts : List (List ℕ)). words_among (placed_after n parts)) (slice_split_at is_blank word b rest (none_pass is_blank word h) blank)
    ∙ ap (λ (t : Bool). cond (not t) (piece word (n + length word) ∷ words_after (n + length word + 1) rest) (words_after (n + length word + 1) rest)) (not_empty word some)

pub word_last : (n : ℕ) (word : List ℕ) → 0 < length word → has_no_blank word ≡ true → words_after n word ≡ piece word (n + length word) ∷ []
word_last n word some h =
    ap (λ (parts : List (List ℕ)). words_among (placed_after n parts)) (slice_split_none is_blank word (none_pass is_blank word h))
    ∙ ap (λ (t : Bool). cond (not t) (piece word (n + length word) ∷ []) []) (not_empty word some)

-- the words of a line that begins after so many bytes
pub words_of_line : (before : ℕ) (line : List ℕ) → words_of (piece line (before + length line)) ≡ words_after before line
words_of_line before line = moved_words (before + length line - length line) before line (omega arith)

-- WORDS WITHOUT THEIR PLACES

pub words_texts : (n : ℕ) (bytes : List ℕ) → texts (words_after n bytes) ≡ words_in bytes
words_texts n bytes =
    texts_filter (λ word. not (is_empty word)) (placed_after n (slice_split is_blank bytes)) ∙ ap (filter (λ word. not (is_empty word))) (texts_placed n (slice_split is_blank bytes))

pub word_before : (word rest : List ℕ) → 0 < length word → has_no_blank word ≡ true → (b : ℕ) → is_blank b ≡ true → words_in (word ++ b ∷ rest) ≡ word ∷ words_in rest
word_before word rest some h b blank =
    ap (filter (λ w. not (is_empty w))) (slice_split_at is_blank word b rest (none_pass is_blank word h) blank)
    ∙ ap (λ (t : Bool). cond (not t) (word ∷ words_in rest) (words_in rest)) (not_empty word some)

pub one_word : (word : List ℕ) → 0 < length word → has_no_blank word ≡ true → words_in word ≡ word ∷ []
one_word word some h =
    ap (filter (λ w. not (is_empty w))) (slice_split_none is_blank word (none_pass is_blank word h)) ∙ ap (λ (t : Bool). cond (not t) (word ∷ []) []) (not_empty word some)

-- bytes that begin a word and have no blank
pub record Grows (word more : List ℕ) : Type 0 where
  pub rest : List ℕ
  pub others : List Word
  pub words : words_in (word ++ more) ≡ (word ++ rest) ∷ others

grown_split : (word more : List ℕ) (o : HasPart (slice_split is_blank more)) → has_no_blank word ≡ true → slice_split is_blank (word ++ more) ≡ (word ++ o.0) ∷ o.1
grown_split [] more o h = o.2
grown_split (b ∷ word) more o h = by_test (is_blank b) refl h (λ k. grown_split word more o k)
  where
    by_test : (t : Bool) → is_blank b ≡ t → (not t && has_no_blank word) ≡ true → (has_no_blank word ≡ true → slice_split is_blank (word ++ more) ≡ (word ++ o.0) ∷ o.1)
        → slice_split is_blank (b ∷ (word ++ more)) ≡ (b ∷ (word ++ o.0)) ∷ o.1
    by_test true e k rest = absurd (let f : ⊥ = cc in f)
    by_test false e k rest = ap (λ (t : Bool). cond t ([] ∷ slice_split is_blank (word ++ more)) (onto_first b (slice_split is_blank (word ++ more)))) e ∙ ap (onto_first b) (rest k)

pub grows : (word more : List ℕ) → 0 < length word → has_no_blank word ≡ true → Grows word more
grows [] more some h = absurd (omega (arith, some))
grows (b ∷ word) more some h =
    let o = split_part is_blank more in
    record {
      rest = o.0;
      others = filter (λ w. not (is_empty w)) o.1;
      words = ap (filter (λ w. not (is_empty w))) (grown_split (b ∷ word) more o h);
    }
