-- Lines and words of a text.
use Rattle.std.proofs.Common.{◌≡◌, ℕ, suc, ◌+◌, ◌-◌, ◌≤◌, ◌∙◌, Bool, true, false, not, cond, List, [], ◌∷◌, ◌++◌, length, map, drop, get_or, refl, sym, ap, arith, inl, inr, length-drop, length-take}
use Rattle.std.specs.Prelude.{filter, slice_range}
use Rattle.std.specs.List.{slice_split, list_all}
use Rattle.std.proofs.lemmas.List.{append-nil}
use Rattle.std.proofs.lemmas.List.Folds.{drop_split}
use Rattle.std.proofs.Math.Seq.{drop-cons, drop-length}
use Rattle.std.proofs.lemmas.List.Splits.{slice_split_at, slice_split_none}
use Rattle.lk_model.specs.Lists.{is_empty}
use Rattle.lk_model.specs.Texts.Lines.{Piece, Word, is_newline, is_blank, placed_after, words_of, texts}
use Rattle.lk_model.specs.Texts.ModelText.{word_lines}
use Rattle.lk_model.proofs.Booleans.{and_true}
use Rattle.lk_model.proofs.ListTests.{none_pass}
use Rattle.lk_model.proofs.Pieces.{words_by, blank_before}
use Rattle.lk_model.proofs.Lists.{not_empty}
use Rattle.lk_text.specs.Cutting.{has_no_blank, is_one_line, IsNextWord, HasNoWord}
use Rattle.lk_text.specs.declared.cuts.Cut.{Cut}
use Rattle.model_text.specs.ModelTexts.{words_in}

-- WORDS

-- blanks before the words do not matter
blanks_first : (before bs : List ℕ) → list_all is_blank before ≡ true → words_in (before ++ bs) ≡ words_in bs
blanks_first [] bs h = refl
blanks_first (b ∷ before) bs h = let p = and_true _ _ h in blank_before b (before ++ bs) p.0 ∙ blanks_first before bs p.1

-- a line of blanks has no word
pub words_none : (line : List ℕ) (at : ℕ) → HasNoWord line at → words_in (drop at line) ≡ []
words_none line at h = ap words_in (sym (append-nil (drop at line))) ∙ blanks_first (drop at line) [] h

-- a word, and then a blank or nothing
word_then : (word rest : List ℕ) → is_empty word ≡ false → has_no_blank word ≡ true → (b : ℕ) → is_blank b ≡ true → words_in (word ++ b ∷ rest) ≡ word ∷ words_in rest
word_then word rest some h b blank =
    ap (filter (λ w. not (is_empty w))) (slice_split_at is_blank word b rest (none_pass is_blank word h) blank)
    ∙ ap (λ (t : Bool). cond (not t) (word ∷ words_in rest) (words_in rest)) some

word_last : (word : List ℕ) → is_empty word ≡ false → has_no_blank word ≡ true → words_in word ≡ word ∷ []
word_last word some h =
    ap (filter (λ w. not (is_empty w))) (slice_split_none is_blank word (none_pass is_blank word h)) ∙ ap (λ (t : Bool). cond (not t) (word ∷ []) []) some

pub length-range : (xs : List ℕ) (a b : ℕ) → a ≤ b → b ≤ length xs → length (slice_range xs a b) ≡ b - a
length-range xs a b low high = omega (arith, length-take (b - a) (drop a xs), length-drop a xs, low, high)

-- the next word, and the words after it
pub words_next : (line : List ℕ) (at : ℕ) (cut : Cut) → IsNextWord line at cut → words_in (drop at line) ≡ slice_range line cut.begin cut.end ∷ words_in (drop cut.next line)
words_next line at cut h =
    let word = slice_range line cut.begin cut.end in
    let order : cut.begin ≤ cut.end = omega (arith, h.some) in
    let some : is_empty word ≡ false = not_empty word (omega (arith, length-range line cut.begin cut.end order h.within, h.some)) in
    let front : words_in (drop at line) ≡ words_in (drop cut.begin line) =
    ap words_in (drop_split line at cut.begin h.behind) ∙ blanks_first (slice_range line at cut.begin) (drop cut.begin line) h.skipped in
    let parts : drop cut.begin line ≡ word ++ drop cut.end line = drop_split line cut.begin cut.end order in
    let next : drop cut.end line ≡ drop cut.next line = ap (λ (n : ℕ). drop n line) (sym h.next) in
    front ∙ ap words_in parts ∙ elim h.ends [
      | inl e ↦
          let tail : drop cut.end line ≡ get_or line cut.end 0 ∷ drop (suc cut.end) line = drop-cons line cut.end 0 e.0 in
          ap (λ (ys : List ℕ). words_in (word ++ ys)) tail
          ∙ word_then word (drop (suc cut.end) line) some h.word (get_or line cut.end 0) e.1
          ∙ ap (λ (ws : List Word). word ∷ ws) (sym (blank_before (get_or line cut.end 0) (drop (suc cut.end) line) e.1) ∙ ap words_in (sym tail ∙ next))
      | inr e ↦
          let tail : drop cut.end line ≡ [] = ap (λ (n : ℕ). drop n line) e ∙ drop-length line in
          ap (λ (ys : List ℕ). words_in (word ++ ys)) tail ∙ ap words_in (append-nil word) ∙ word_last word some h.word
          ∙ ap (λ (ws : List Word). word ∷ ws) (sym (ap words_in (sym next ∙ tail)))
    ]

-- LINES

-- the words of lines, wherever they stand
words_placed : (n : ℕ) (parts : List (List ℕ)) → map (λ line. texts (words_of line)) (placed_after n parts) ≡ map words_in parts
words_placed n [] = refl
words_placed n (part ∷ parts) =
    let line : Piece = record { bytes = part; last = n + length part } in
    ap (λ (ws : List Word). ws ∷ map (λ l. texts (words_of l)) (placed_after (n + length part + 1) parts)) (words_by line)
    ∙ ap (λ (ls : List (List Word)). words_in part ∷ ls) (words_placed (n + length part + 1) parts)

-- what stands between the bytes 10
lines_are : (text : List ℕ) → word_lines text ≡ map words_in (slice_split is_newline text)
lines_are text = words_placed 0 (slice_split is_newline text)

-- a line that its byte 10 ends
pub line_ended : (line more : List ℕ) → is_one_line line ≡ true → word_lines (line ++ 10 ∷ more) ≡ words_in line ∷ word_lines more
line_ended line more h =
    lines_are (line ++ 10 ∷ more)
    ∙ ap (map words_in) (slice_split_at is_newline line 10 more (none_pass is_newline line h) refl)
    ∙ ap (λ (ls : List (List Word)). words_in line ∷ ls) (sym (lines_are more))

-- the last line
pub line_last : (line : List ℕ) → is_one_line line ≡ true → word_lines line ≡ words_in line ∷ []
line_last line h = lines_are line ∙ ap (map words_in) (slice_split_none is_newline line (none_pass is_newline line h))
