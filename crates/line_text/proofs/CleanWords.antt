-- Words without a space or a byte 10, and lines of such words.
use Rattle.std.proofs.Common.{◌≡◌, ℕ, ◌∙◌, Bool, true, not, ◌&&◌, List, [], ◌∷◌, ◌++◌, map, refl, sym, ap, append_assoc}
use Rattle.std.specs.List.{list_all, join_with_byte, concat}
use Rattle.std.proofs.lemmas.Bool.{and_from}
use Rattle.std.proofs.lemmas.List.{append_cancel_right}
use Rattle.std.proofs.lemmas.List.Folds.{list_all-append}
use Rattle.std.proofs.lemmas.List.Splits.{join_with_byte-slice_split}
use Rattle.lk_model.specs.Lists.{is_empty}
use Rattle.lk_model.specs.Texts.Lines.{Word}
use Rattle.lk_model.specs.Texts.PlainText.{line}
use Rattle.lk_model.specs.Documents.Reading.{cut_lines}
use Rattle.lk_model.proofs.Booleans.{and_true}
use Rattle.lk_text.specs.Cutting.{is_one_line}
use Rattle.line_text.specs.Fields.{fields}
use Rattle.line_text.specs.Fields.{has_no_space}
use Rattle.line_text.proofs.FieldTexts.{one_field, field_then}
use Rattle.line_text.specs.LineReading.{is_whole_line, are_whole_lines}
use Rattle.line_text.proofs.LineCuts.{cut_nothing, cut_line}
use Rattle.line_text.proofs.LineReads.{whole_line}
use Rattle.line_text.proofs.Spelled.{cons_parts}

-- no space and no byte 10
abbrev pub is_clean : Word → Bool
is_clean word = has_no_space word && is_one_line word

-- some words, and each is clean
abbrev pub is_clean_line : List Word → Bool
is_clean_line words = not (is_empty words) && list_all is_clean words

abbrev pub are_clean : List (List Word) → Bool
are_clean lines = list_all is_clean_line lines

-- THE WORDS OF A LINE

-- the words of a line are its fields
fields_of : (word : Word) (words : List Word) → list_all is_clean (word ∷ words) ≡ true → fields (join_with_byte 32 (word ∷ words)) ≡ word ∷ words
fields_of word [] h = one_field word (and_true (has_no_space word) (is_one_line word) (and_true (is_clean word) true h).0).0
fields_of word (next ∷ words) h =
    let p = and_true (is_clean word) (list_all is_clean (next ∷ words)) h in
    field_then word (join_with_byte 32 (next ∷ words)) (and_true (has_no_space word) (is_one_line word) p.0).0
    ∙ ap (λ (ws : List Word). word ∷ ws) (fields_of next words p.1)

joined_fields : (words : List Word) → is_clean_line words ≡ true → fields (join_with_byte 32 words) ≡ words
joined_fields [] h = absurd (let f : ⊥ = cc in f)
joined_fields (word ∷ words) h = fields_of word words h

-- a line, of the words between its spaces
pub line_fields : (bytes : List ℕ) → line (fields bytes) ≡ bytes ++ 10 ∷ []
line_fields bytes = ap (λ (bs : List ℕ). bs ++ 10 ∷ []) (join_with_byte-slice_split 32 bytes)

-- the line says which words they are
pub words_of_line : (words : List Word) (bytes : List ℕ) → is_clean_line words ≡ true → line words ≡ bytes ++ 10 ∷ [] → words ≡ fields bytes
words_of_line words bytes h e = sym (joined_fields words h) ∙ ap fields (append_cancel_right (join_with_byte 32 words) bytes (10 ∷ []) e)

-- lines with the same bytes have the same words
pub same_line : (us vs : List Word) → is_clean_line us ≡ true → is_clean_line vs ≡ true → line us ≡ line vs → us ≡ vs
same_line us vs g h e = words_of_line us (join_with_byte 32 vs) g e ∙ joined_fields vs h

pub same_lines : (ls ms : List (List Word)) → are_clean ls ≡ true → are_clean ms ≡ true → map line ls ≡ map line ms → ls ≡ ms
same_lines [] [] g h e = refl
same_lines [] (m ∷ ms) g h e = absurd (let f : ⊥ = cc in f)
same_lines (l ∷ ls) [] g h e = absurd (let f : ⊥ = cc in f)
same_lines (l ∷ ls) (m ∷ ms) g h e =
    let parts = cons_parts e in
    let p = and_true (is_clean_line l) (are_clean ls) g in
    let q = and_true (is_clean_line m) (are_clean ms) h in
    let first = same_line l m p.0 q.0 parts.0 in
    let rest = same_lines ls ms p.1 q.1 parts.1 in
    cc

-- Lines that go on from others by a line of these bytes.
pub record GoesOnBy (lines before : List (List Word)) (raw : List ℕ) : Type 0 where
  pub words : List Word
  pub more : List (List Word)
  pub whole : lines ≡ before ++ words ∷ more
  pub clean : is_clean_line words ≡ true
  pub spelled : line words ≡ raw

pub goes_on_by : (lines before : List (List Word)) (raw : List ℕ) (others : List (List ℕ)) → are_clean lines ≡ true → are_clean before ≡ true
    → map line lines ≡ map line before ++ raw ∷ others → GoesOnBy lines before raw
goes_on_by [] [] raw others g h e = absurd (let f : ⊥ = cc in f)
goes_on_by [] (l ∷ before) raw others g h e = absurd (let f : ⊥ = cc in f)
goes_on_by (words ∷ more) [] raw others g h e =
    record { words = words; more = more; whole = refl; clean = (and_true (is_clean_line words) (are_clean more) g).0; spelled = (cons_parts e).0 }
goes_on_by (m ∷ lines) (l ∷ before) raw others g h e =
    let parts = cons_parts e in
    let p = and_true (is_clean_line m) (are_clean lines) g in
    let q = and_true (is_clean_line l) (are_clean before) h in
    let first = same_line m l p.0 q.0 parts.0 in
    let r = goes_on_by lines before raw others p.1 q.1 parts.1 in
    record { words = r.words; more = r.more; whole = (let w = r.whole in cc); clean = r.clean; spelled = r.spelled }

-- THE LINES OF A TEXT

-- a line has no byte 10 before its end
joined_one_line : (words : List Word) → list_all is_clean words ≡ true → is_one_line (join_with_byte 32 words) ≡ true
joined_one_line [] h = refl
joined_one_line (word ∷ []) h = (and_true (has_no_space word) (is_one_line word) (and_true (is_clean word) true h).0).1
joined_one_line (word ∷ next ∷ words) h =
    let p = and_true (is_clean word) (list_all is_clean (next ∷ words)) h in
    list_all-append _ word (32 ∷ join_with_byte 32 (next ∷ words))
    ∙ and_from (is_one_line word) (is_one_line (join_with_byte 32 (next ∷ words))) (and_true (has_no_space word) (is_one_line word) p.0).1 (joined_one_line (next ∷ words) p.1)

-- lines in a row, cut again
pub cut_lines_in_row : (lines : List (List Word)) → are_clean lines ≡ true → cut_lines (concat (map line lines)) ≡ map line lines
cut_lines_in_row [] h = cut_nothing
cut_lines_in_row (words ∷ lines) h =
    let p = and_true (is_clean_line words) (are_clean lines) h in
    let content = join_with_byte 32 words in
    ap cut_lines (append_assoc content (10 ∷ []) (concat (map line lines)))
    ∙ cut_line content (concat (map line lines)) (joined_one_line words (and_true (not (is_empty words)) (list_all is_clean words) p.0).1)
    ∙ ap (λ (ls : List (List ℕ)). line words ∷ ls) (cut_lines_in_row lines p.1)

-- lines of clean words are whole
pub clean_whole : (lines : List (List Word)) → are_clean lines ≡ true → are_whole_lines (map line lines) ≡ true
clean_whole [] h = refl
clean_whole (words ∷ lines) h =
    let p = and_true (is_clean_line words) (are_clean lines) h in
    let one = joined_one_line words (and_true (not (is_empty words)) (list_all is_clean words) p.0).1 in
    and_from (is_whole_line (line words)) (are_whole_lines (map line lines)) (whole_line (join_with_byte 32 words) one) (clean_whole lines p.1)
