-- Texts as they are printed: lines, and documents.
use Rattle.std.proofs.Common.{◌≡◌, ◌∙◌, ℕ, ◌+◌, ◌<◌, ◌≤◌, List, [], ◌∷◌, ◌++◌, length, drop, get_or, ap, refl, sym, append_assoc}
use Rattle.std.specs.Prelude.{codes}
use Rattle.std.specs.Fmt.{decimal}
use Rattle.std.specs.List.{flat_map, join_with_byte}
use Rattle.std.proofs.lemmas.List.{append-nil, drop_more, at_drop_all, map-append}
use Rattle.lk_model.specs.Texts.Lines.{Word}
use Rattle.lk_model.specs.Texts.PlainText.{line, number_words}
use Rattle.lk_model.specs.Documents.Text.{comment, text_of, text_lines, document_lines}
use Rattle.lk_model.specs.declared.document.Document.{Document}
use Rattle.line_text.proofs.DraftReads.{in_row}
use Rattle.line_text.specs.Spaced.{spaced}

-- the text of a document is that of each line, in a row
pub text_in_row : (d : Document) → text_of d ≡ flat_map line (document_lines d)
unfolding text_of text_lines
text_in_row d = in_row (document_lines d)

-- LINES OF ONE ENTRY

-- words with a space after each, and then the last word
joined_last : (words : List Word) (last : Word) → join_with_byte 32 (words ++ last ∷ []) ≡ spaced words ++ last
joined_last [] last = refl
joined_last (word ∷ []) last = simp append_assoc
joined_last (word ∷ next ∷ words) last = ap (λ (s : List ℕ). word ++ (32 ∷ s)) (joined_last (next ∷ words) last) ∙ simp append_assoc

entry_line : (keyword : Word) (numbers : List ℕ) (last : ℕ) → line (comment keyword (number_words (numbers ++ last ∷ []))) ≡ spaced (codes "c" ∷ keyword ∷ []) ++ (spaced (number_words numbers) ++ (decimal last ++ 10 ∷ []))
entry_line keyword numbers last =
    ap (λ (words : List Word). line (codes "c" ∷ keyword ∷ words)) (map-append decimal numbers (last ∷ []))
    ∙ ap (λ (s : List ℕ). s ++ 10 ∷ []) (joined_last (codes "c" ∷ keyword ∷ number_words numbers) (decimal last)) ∙ simp append_assoc

-- a keyword, numbers and the last one, written one after the other
pub entry_behind : (before with_keyword with_numbers : List ℕ) (keyword : Word) (numbers : List ℕ) (last : ℕ) → with_keyword ≡ before ++ spaced (codes "c" ∷ keyword ∷ []) → with_numbers ≡ with_keyword ++ spaced (number_words numbers)
    → with_numbers ++ (decimal last ++ 10 ∷ []) ≡ before ++ line (comment keyword (number_words (numbers ++ last ∷ [])))
entry_behind before with_keyword with_numbers keyword numbers last first second =
    let heads = spaced (codes "c" ∷ keyword ∷ []) in
    let middle = spaced (number_words numbers) in
    let end = decimal last ++ 10 ∷ [] in
    ap (λ (s : List ℕ). s ++ end) (second ∙ ap (λ (s : List ℕ). s ++ middle) first) ∙ append_assoc (before ++ heads) middle end ∙ append_assoc before heads (middle ++ end)
    ∙ ap (λ (s : List ℕ). before ++ s) (sym (entry_line keyword numbers last))

-- one more number after those that are written
pub next_number : (numbers : List ℕ) (i : ℕ) (written next whole : List ℕ) → i < length numbers → written ++ spaced (number_words (drop i numbers)) ≡ whole
    → next ≡ written ++ (decimal (get_or numbers i 0) ++ 32 ∷ []) → next ++ spaced (number_words (drop (i + 1) numbers)) ≡ whole
next_number numbers i written next whole inside before more =
    let word = decimal (get_or numbers i 0) ++ 32 ∷ [] in
    let rest = spaced (number_words (drop (i + 1) numbers)) in
    ap (λ (s : List ℕ). s ++ rest) more ∙ append_assoc written word rest
    ∙ ap (λ (ns : List ℕ). written ++ spaced (number_words ns)) (sym (drop_more numbers i 0 inside)) ∙ before

-- where nothing is left, all is written
pub all_written : {X : Type 0} (words_of : List X → List Word) (xs : List X) (i : ℕ) (written whole : List ℕ) → words_of [] ≡ [] → length xs ≤ i → written ++ spaced (words_of (drop i xs)) ≡ whole → written ≡ whole
all_written words_of xs i written whole none over before =
    sym (append-nil written) ∙ ap (λ (words : List Word). written ++ spaced words) (sym none) ∙ ap (λ (s : List ℕ). written ++ s) (sym (at_drop_all (λ ys. spaced (words_of ys)) xs i over)) ∙ before
