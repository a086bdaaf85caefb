-- Pieces of texts, by their bytes.
use Rattle.std.proofs.Common.{◌≡◌, ◌∙◌, ℕ, ◌+◌, ◌-◌, List, [], ◌∷◌, length, refl, ap, Bool, true, not, filter, inl, inr}
use Rattle.std.specs.List.{slice_split}
use Rattle.std.proofs.lemmas.Bool.{cases_Bool}
use Rattle.std.proofs.lemmas.List.Splits.{slice_split-cons_yes}
use Rattle.lk_model.specs.Lists.{is_empty}
use Rattle.lk_model.specs.Texts.Lines.{is_blank, placed_after, words_of, texts, Piece}

-- the texts of pieces that are placed
pub texts_placed : (n : ℕ) (parts : List (List ℕ)) → texts (placed_after n parts) ≡ parts
texts_placed n [] = refl
texts_placed n (part ∷ parts) = ap (λ ps. part ∷ ps) (texts_placed (n + length part + 1) parts)

-- pieces that pass a test of their bytes
pub texts_filter : (p : List ℕ → Bool) (pieces : List Piece) → texts (filter (λ piece. p piece.bytes) pieces) ≡ filter p (texts pieces)
texts_filter p [] = refl
texts_filter p (x ∷ xs) = elim (cases_Bool (p x.bytes)) [
  | inl e ↦ rw e (ap (λ ps. x.bytes ∷ ps) (texts_filter p xs))
  | inr e ↦ rw e (texts_filter p xs)
]

-- the words of a line, wherever it stands
pub words_by : (line : Piece) → texts (words_of line) ≡ filter (λ word. not (is_empty word)) (slice_split is_blank line.bytes)
words_by line =
    let placed = placed_after (line.last - length line.bytes) (slice_split is_blank line.bytes) in
    texts_filter (λ word. not (is_empty word)) placed ∙ ap (filter (λ word. not (is_empty word))) (texts_placed (line.last - length line.bytes) (slice_split is_blank line.bytes))

-- a blank before the words does not matter
pub blank_before : (b : ℕ) (bs : List ℕ) → is_blank b ≡ true
    → filter (λ word. not (is_empty word)) (slice_split is_blank (b ∷ bs)) ≡ filter (λ word. not (is_empty word)) (slice_split is_blank bs)
blank_before b bs h = ap (filter (λ word. not (is_empty word))) (slice_split-cons_yes is_blank b bs h)
