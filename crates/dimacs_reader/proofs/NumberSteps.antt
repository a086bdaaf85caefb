-- After the problem line, one byte after the other.
use Rattle.std.proofs.Common.{◌≡◌, ◌≢◌, ℕ, ◌+◌, ◌-◌, ◌<◌, ◌≤◌, ◌∙◌, Bool, true, false, cond, ◌==◌, List, [], ◌∷◌, ◌++◌, length, Option, Some, None, refl, sym, ap, arith, inl, inr, append_assoc, length-append}
use Rattle.std.specs.List.{slice_split}
use Rattle.std.proofs.lemmas.Bool.{cases_Bool, eqb-true}
use Rattle.std.proofs.lemmas.List.{append-nil}
use Rattle.std.proofs.lemmas.List.Splits.{slice_split-cons_yes}
use Rattle.lk_model.specs.Texts.Lines.{Piece, is_newline, is_blank, placed_after, words_of}
use Rattle.lk_model.specs.Texts.Fault.{word_faults}
use Rattle.lk_model.specs.declared.text_fault.Fault.{Fault}
use Rattle.dimacs_reader.specs.Contents.{words_after, has_no_blank}
use Rattle.dimacs_reader.specs.LineKinds.{LineKind, Skipped, EndMark, Problem, Numbers, kind_at, kind_by}
use Rattle.dimacs_reader.specs.FirstFaults.{first_or, fault_among}
use Rattle.dimacs_reader.specs.Outcomes.{Outcome, Faulty, end_outcome, fault_or, line_outcome, outcome_behind, outcome_of_words}
use Rattle.dimacs_reader.specs.Stages.{number_outcome}
use Rattle.dimacs_reader.specs.declared.numbers.NumberLine.{NumberLine}
use Rattle.dimacs_reader.specs.declared.numbers.NumberLine.TheVariants as numbers
use Rattle.dimacs_reader.specs.declared.word.WordSoFar.{WordSoFar}
use Rattle.dimacs_reader.proofs.NumberLemmas.{split_part, HasPart}
use Rattle.dimacs_reader.proofs.Cuts.{piece, split_on, blank_first, begins, words_of_line, word_then, word_last}
use Rattle.dimacs_reader.proofs.HeadSteps.{moved}

-- the outcome of the bytes after so many
abbrev pub number_rest : NumberLine → ℕ → ℕ → List Piece → List ℕ → ℕ → List ℕ → Outcome
number_rest line vars clauses earlier word before more = number_outcome line vars clauses earlier word before (slice_split is_newline more) (before + length more + 1)

-- a line with these words before lines
abbrev with_words : ℕ → ℕ → List Piece → List Piece → List Piece → ℕ → Outcome
with_words vars clauses earlier words lines over =
    line_outcome (kind_by words) (end_outcome vars clauses earlier) (outcome_behind vars clauses earlier lines over) (outcome_of_words vars clauses earlier words lines over)

-- the same, by the kind of the line
abbrev with_kind : ℕ → ℕ → List Piece → LineKind → List Piece → List Piece → ℕ → Outcome
with_kind vars clauses earlier kind words lines over =
    line_outcome kind (end_outcome vars clauses earlier) (outcome_behind vars clauses earlier lines over) (outcome_of_words vars clauses earlier words lines over)

-- the beginning of a line that does not end yet
first_line : (vars clauses : ℕ) (earlier : List Piece) (n b : ℕ) (bs : List ℕ) (o : HasPart (slice_split is_newline bs)) → is_newline b ≡ false
    → number_rest numbers.Start vars clauses earlier [] n (b ∷ bs)
    ≡ with_words vars clauses earlier (words_after n (b ∷ o.0)) (placed_after (n + length (b ∷ o.0) + 1) o.1) (n + length (b ∷ bs) + 1)
first_line vars clauses earlier n b bs o e =
    let line = b ∷ o.0 in
    ap (λ (parts : List (List ℕ)). outcome_behind vars clauses earlier (placed_after n parts) (n + length (b ∷ bs) + 1)) (split_on is_newline b bs o e)
    ∙ ap (λ (ws : List Piece). with_words vars clauses earlier ws (placed_after (n + length line + 1) o.1) (n + length (b ∷ bs) + 1)) (words_of_line n line)

pub start_newline : (vars clauses : ℕ) (earlier : List Piece) (n b : ℕ) (bs : List ℕ) → is_newline b ≡ true
    → number_rest numbers.Start vars clauses earlier [] n (b ∷ bs) ≡ number_rest numbers.Start vars clauses earlier [] (n + 1) bs
start_newline vars clauses earlier n b bs e =
    ap (λ (parts : List (List ℕ)). outcome_behind vars clauses earlier (placed_after n parts) (n + length (b ∷ bs) + 1)) (slice_split-cons_yes is_newline b bs e)
    ∙ moved (λ m over. outcome_behind vars clauses earlier (placed_after m (slice_split is_newline bs)) over) (n + 0 + 1) (n + 1) (n + length (b ∷ bs) + 1) (n + 1 + length bs + 1) (omega arith) (omega arith)

pub start_blank : (vars clauses : ℕ) (earlier : List Piece) (n b : ℕ) (bs : List ℕ) → is_newline b ≡ false → is_blank b ≡ true
    → number_rest numbers.Start vars clauses earlier [] n (b ∷ bs) ≡ number_rest numbers.Start vars clauses earlier [] (n + 1) bs
start_blank vars clauses earlier n b bs e h =
    let o = split_part is_newline bs in
    let over = n + length (b ∷ bs) + 1 in
    first_line vars clauses earlier n b bs o e
    ∙ ap (λ (ws : List Piece). with_words vars clauses earlier ws (placed_after (n + length (b ∷ o.0) + 1) o.1) over) (blank_first n b o.0 h ∙ sym (words_of_line (n + 1) o.0))
    ∙ moved (λ m k. with_words vars clauses earlier (words_of (piece o.0 (n + 1 + length o.0))) (placed_after m o.1) k) (n + length (b ∷ o.0) + 1) (n + 1 + length o.0 + 1) over (n + 1 + length bs + 1) (omega arith) (omega arith)
    ∙ ap (λ (parts : List (List ℕ)). outcome_behind vars clauses earlier (placed_after (n + 1) parts) (n + 1 + length bs + 1)) (sym o.2)

-- the first byte of a word
start_word : (vars clauses : ℕ) (earlier : List Piece) (n b : ℕ) (bs : List ℕ) (o : HasPart (slice_split is_newline bs)) → is_newline b ≡ false → is_blank b ≡ false
    → number_rest numbers.Start vars clauses earlier [] n (b ∷ bs)
    ≡ with_kind vars clauses earlier (kind_at b (n + 1)) (words_after n (b ∷ o.0)) (placed_after (n + length (b ∷ o.0) + 1) o.1) (n + length (b ∷ bs) + 1)
start_word vars clauses earlier n b bs o e h =
    let line = b ∷ o.0 in
    let w = begins n b o.0 h in
    let kind : kind_by (words_after n line) ≡ kind_at b (n + 1) =
    ap kind_by w.words ∙ ap (kind_at b) (let p : n + length (b ∷ w.rest) + 1 - length (b ∷ w.rest) ≡ n + 1 = omega arith in p) in
    first_line vars clauses earlier n b bs o e
    ∙ ap (λ (k : LineKind). with_kind vars clauses earlier k (words_after n line) (placed_after (n + length line + 1) o.1) (n + length (b ∷ bs) + 1)) kind

pub start_end : (vars clauses : ℕ) (earlier : List Piece) (n b : ℕ) (bs : List ℕ) → is_newline b ≡ false → is_blank b ≡ false → b ≡ 37
    → number_rest numbers.Start vars clauses earlier [] n (b ∷ bs) ≡ end_outcome vars clauses earlier (n + 1)
start_end vars clauses earlier n b bs e h c =
    let o = split_part is_newline bs in
    start_word vars clauses earlier n b bs o e h
    ∙ ap (λ (x : ℕ). with_kind vars clauses earlier (kind_at x (n + 1)) (words_after n (b ∷ o.0)) (placed_after (n + length (b ∷ o.0) + 1) o.1) (n + length (b ∷ bs) + 1)) c

-- words of a line that begin with one of one byte
word_begun : (vars clauses : ℕ) (earlier : List Piece) (n b : ℕ) (bs : List ℕ) (w : WordSoFar) (o : HasPart (slice_split is_newline bs))
    → outcome_of_words vars clauses earlier (words_after n (b ∷ o.0)) (placed_after (n + length (b ∷ o.0) + 1) o.1) (n + length (b ∷ bs) + 1)
    ≡ number_rest (numbers.Word w) vars clauses earlier (b ∷ []) (n + 1) bs
word_begun vars clauses earlier n b bs w o =
    moved (λ m k. outcome_of_words vars clauses earlier (words_after n (b ∷ o.0)) (placed_after m o.1) k) (n + length (b ∷ o.0) + 1) (n + 1 + length o.0 + 1) (n + length (b ∷ bs) + 1) (n + 1 + length bs + 1) (omega arith) (omega arith)
    ∙ ap (λ (m : ℕ). outcome_of_words vars clauses earlier (words_after m (b ∷ o.0)) (placed_after (n + 1 + length o.0 + 1) o.1) (n + 1 + length bs + 1)) (let p : n ≡ n + 1 - length (b ∷ []) = omega arith in p)
    ∙ ap (λ (parts : List (List ℕ)). number_outcome (numbers.Word w) vars clauses earlier (b ∷ []) (n + 1) parts (n + 1 + length bs + 1)) (sym o.2)

pub start_number : (vars clauses : ℕ) (earlier : List Piece) (n b : ℕ) (bs : List ℕ) (w : WordSoFar) → is_newline b ≡ false → is_blank b ≡ false → b ≢ 99 → b ≢ 112 → b ≢ 37
    → number_rest numbers.Start vars clauses earlier [] n (b ∷ bs) ≡ number_rest (numbers.Word w) vars clauses earlier (b ∷ []) (n + 1) bs
start_number vars clauses earlier n b bs w e h no_comment no_problem no_mark =
    let o = split_part is_newline bs in
    start_word vars clauses earlier n b bs o e h
    ∙ by_tests (b == 37) (b == 99) (b == 112) (not_equal b 37 no_mark) (not_equal b 99 no_comment) (not_equal b 112 no_problem) (end_outcome vars clauses earlier) _ _
    ∙ word_begun vars clauses earlier n b bs w o
  where
    not_equal : (x y : ℕ) → x ≢ y → (x == y) ≡ false
    not_equal x y ne = elim (cases_Bool (x == y)) [ inl t ↦ absurd (ne (eqb-true x y t)) | inr t ↦ t ]

    by_tests : (mark skipped problem : Bool) → mark ≡ false → skipped ≡ false → problem ≡ false → (a : ℕ → Outcome) (c d : Outcome)
        → line_outcome (cond mark (EndMark (n + 1)) (cond skipped Skipped (cond problem (Problem (n + 1)) (Numbers (n + 1))))) a c d ≡ d
    by_tests true skipped problem m s p a c d = absurd (let f : ⊥ = cc in f)
    by_tests false true problem m s p a c d = absurd (let f : ⊥ = cc in f)
    by_tests false false true m s p a c d = absurd (let f : ⊥ = cc in f)
    by_tests false false false m s p a c d = refl

-- COMMENTS

pub comment_newline : (vars clauses : ℕ) (earlier : List Piece) (n b : ℕ) (bs word : List ℕ) → is_newline b ≡ true
    → number_rest numbers.Comment vars clauses earlier word n (b ∷ bs) ≡ number_rest numbers.Start vars clauses earlier [] (n + 1) bs
comment_newline vars clauses earlier n b bs word e =
    ap (λ (parts : List (List ℕ)). number_outcome numbers.Comment vars clauses earlier word n parts (n + length (b ∷ bs) + 1)) (slice_split-cons_yes is_newline b bs e)
    ∙ moved (λ m over. outcome_behind vars clauses earlier (placed_after m (slice_split is_newline bs)) over) (n + 0 + 1) (n + 1) (n + length (b ∷ bs) + 1) (n + 1 + length bs + 1) (omega arith) (omega arith)

pub comment_other : (vars clauses : ℕ) (earlier : List Piece) (n b : ℕ) (bs word : List ℕ) → is_newline b ≡ false
    → number_rest numbers.Comment vars clauses earlier word n (b ∷ bs) ≡ number_rest numbers.Comment vars clauses earlier word (n + 1) bs
comment_other vars clauses earlier n b bs word e =
    let o = split_part is_newline bs in
    ap (λ (parts : List (List ℕ)). number_outcome numbers.Comment vars clauses earlier word n parts (n + length (b ∷ bs) + 1)) (split_on is_newline b bs o e)
    ∙ moved (λ m over. outcome_behind vars clauses earlier (placed_after m o.1) over) (n + length (b ∷ o.0) + 1) (n + 1 + length o.0 + 1) (n + length (b ∷ bs) + 1) (n + 1 + length bs + 1) (omega arith) (omega arith)
    ∙ ap (λ (parts : List (List ℕ)). number_outcome numbers.Comment vars clauses earlier word (n + 1) parts (n + 1 + length bs + 1)) (sym o.2)

-- GAPS

pub gap_newline : (vars clauses : ℕ) (earlier : List Piece) (n b : ℕ) (bs word : List ℕ) → is_newline b ≡ true
    → number_rest numbers.Gap vars clauses earlier word n (b ∷ bs) ≡ number_rest numbers.Start vars clauses earlier [] (n + 1) bs
gap_newline vars clauses earlier n b bs word e =
    ap (λ (parts : List (List ℕ)). number_outcome numbers.Gap vars clauses earlier word n parts (n + length (b ∷ bs) + 1)) (slice_split-cons_yes is_newline b bs e)
    ∙ ap (λ (ws : List Piece). outcome_behind vars clauses ws (placed_after (n + 0 + 1) (slice_split is_newline bs)) (n + length (b ∷ bs) + 1)) (append-nil earlier)
    ∙ moved (λ m over. outcome_behind vars clauses earlier (placed_after m (slice_split is_newline bs)) over) (n + 0 + 1) (n + 1) (n + length (b ∷ bs) + 1) (n + 1 + length bs + 1) (omega arith) (omega arith)

-- the rest of a line after a gap
gap_part : (vars clauses : ℕ) (earlier : List Piece) (n b : ℕ) (bs word : List ℕ) (o : HasPart (slice_split is_newline bs)) → is_newline b ≡ false
    → number_rest numbers.Gap vars clauses earlier word n (b ∷ bs)
    ≡ outcome_of_words vars clauses earlier (words_after n (b ∷ o.0)) (placed_after (n + length (b ∷ o.0) + 1) o.1) (n + length (b ∷ bs) + 1)
gap_part vars clauses earlier n b bs word o e = ap (λ (parts : List (List ℕ)). number_outcome numbers.Gap vars clauses earlier word n parts (n + length (b ∷ bs) + 1)) (split_on is_newline b bs o e)

pub gap_blank : (vars clauses : ℕ) (earlier : List Piece) (n b : ℕ) (bs word : List ℕ) → is_newline b ≡ false → is_blank b ≡ true
    → number_rest numbers.Gap vars clauses earlier word n (b ∷ bs) ≡ number_rest numbers.Gap vars clauses earlier word (n + 1) bs
gap_blank vars clauses earlier n b bs word e h =
    let o = split_part is_newline bs in
    gap_part vars clauses earlier n b bs word o e
    ∙ ap (λ (ws : List Piece). outcome_of_words vars clauses earlier ws (placed_after (n + length (b ∷ o.0) + 1) o.1) (n + length (b ∷ bs) + 1)) (blank_first n b o.0 h)
    ∙ moved (λ m k. outcome_of_words vars clauses earlier (words_after (n + 1) o.0) (placed_after m o.1) k) (n + length (b ∷ o.0) + 1) (n + 1 + length o.0 + 1) (n + length (b ∷ bs) + 1) (n + 1 + length bs + 1) (omega arith) (omega arith)
    ∙ ap (λ (parts : List (List ℕ)). number_outcome numbers.Gap vars clauses earlier word (n + 1) parts (n + 1 + length bs + 1)) (sym o.2)

pub gap_word : (vars clauses : ℕ) (earlier : List Piece) (n b : ℕ) (bs word : List ℕ) (w : WordSoFar) → is_newline b ≡ false
    → number_rest numbers.Gap vars clauses earlier word n (b ∷ bs) ≡ number_rest (numbers.Word w) vars clauses earlier (b ∷ []) (n + 1) bs
gap_word vars clauses earlier n b bs word w e =
    let o = split_part is_newline bs in gap_part vars clauses earlier n b bs word o e ∙ word_begun vars clauses earlier n b bs w o

-- WORDS

-- faults, where there are none, and where there are some
none_or : (fs : List Fault) (o : Option Fault) → first_or fs None ≡ None → first_or fs o ≡ o
none_or [] o e = refl
none_or (f ∷ fs) o e = absurd (let g : ⊥ = cc in g)

some_or : (fs : List Fault) (o : Option Fault) (f : Fault) → first_or fs None ≡ Some f → first_or fs o ≡ Some f
some_or [] o f e = absurd (let g : ⊥ = cc in g)
some_or (g ∷ fs) o f e = e

-- the first of some words is taken, or is at fault
pub word_taken : (vars clauses : ℕ) (earlier : List Piece) (word : Piece) (words lines : List Piece) (over : ℕ) → fault_among vars clauses earlier (word ∷ []) ≡ None
    → outcome_of_words vars clauses earlier (word ∷ words) lines over ≡ outcome_of_words vars clauses (earlier ++ word ∷ []) words lines over
word_taken vars clauses earlier word words lines over e =
    let later = fault_among vars clauses (earlier ++ word ∷ []) words in
    ap (λ (o : Option Fault). fault_or o (outcome_behind vars clauses (earlier ++ word ∷ words) lines over)) (none_or (word_faults vars clauses (earlier, word)) later e)
    ∙ ap (λ (ws : List Piece). fault_or later (outcome_behind vars clauses ws lines over)) (sym (append_assoc earlier (word ∷ []) words))

pub word_at_fault : (vars clauses : ℕ) (earlier : List Piece) (word : Piece) (words lines : List Piece) (over : ℕ) (f : Fault) → fault_among vars clauses earlier (word ∷ []) ≡ Some f
    → outcome_of_words vars clauses earlier (word ∷ words) lines over ≡ Faulty f
word_at_fault vars clauses earlier word words lines over f e =
    ap (λ (o : Option Fault). fault_or o (outcome_behind vars clauses (earlier ++ word ∷ words) lines over))
    (some_or (word_faults vars clauses (earlier, word)) (fault_among vars clauses (earlier ++ word ∷ []) words) f e)

-- the word ends with the line
pub word_newline : (vars clauses : ℕ) (earlier : List Piece) (word : List ℕ) (n b : ℕ) (bs : List ℕ) (w : WordSoFar) → is_newline b ≡ true → 0 < length word → length word ≤ n → has_no_blank word ≡ true
    → number_rest (numbers.Word w) vars clauses earlier word n (b ∷ bs)
    ≡ outcome_of_words vars clauses earlier (piece word n ∷ []) (placed_after (n + 1) (slice_split is_newline bs)) (n + 1 + length bs + 1)
word_newline vars clauses earlier word n b bs w e some within h =
    let place : n - length word + length word ≡ n = omega (arith, within) in
    ap (λ (parts : List (List ℕ)). number_outcome (numbers.Word w) vars clauses earlier word n parts (n + length (b ∷ bs) + 1)) (slice_split-cons_yes is_newline b bs e)
    ∙ ap (λ (ls : List ℕ). outcome_of_words vars clauses earlier (words_after (n - length word) ls) (placed_after (n + 0 + 1) (slice_split is_newline bs)) (n + length (b ∷ bs) + 1)) (append-nil word)
    ∙ ap (λ (ws : List Piece). outcome_of_words vars clauses earlier ws (placed_after (n + 0 + 1) (slice_split is_newline bs)) (n + length (b ∷ bs) + 1)) (word_last (n - length word) word some h)
    ∙ ap (λ (k : ℕ). outcome_of_words vars clauses earlier (piece word k ∷ []) (placed_after (n + 0 + 1) (slice_split is_newline bs)) (n + length (b ∷ bs) + 1)) place
    ∙ moved (λ m over. outcome_of_words vars clauses earlier (piece word n ∷ []) (placed_after m (slice_split is_newline bs)) over) (n + 0 + 1) (n + 1) (n + length (b ∷ bs) + 1) (n + 1 + length bs + 1) (omega arith) (omega arith)

-- the word ends with the text
pub word_end : (vars clauses : ℕ) (earlier : List Piece) (word : List ℕ) (n : ℕ) (w : WordSoFar) → 0 < length word → length word ≤ n → has_no_blank word ≡ true
    → number_rest (numbers.Word w) vars clauses earlier word n [] ≡ outcome_of_words vars clauses earlier (piece word n ∷ []) [] (n + 1)
word_end vars clauses earlier word n w some within h =
    let place : n - length word + length word ≡ n = omega (arith, within) in
    ap (λ (ls : List ℕ). outcome_of_words vars clauses earlier (words_after (n - length word) ls) [] (n + 0 + 1)) (append-nil word)
    ∙ ap (λ (ws : List Piece). outcome_of_words vars clauses earlier ws [] (n + 0 + 1)) (word_last (n - length word) word some h)
    ∙ ap (λ (k : ℕ). outcome_of_words vars clauses earlier (piece word k ∷ []) [] (n + 0 + 1)) place
    ∙ ap (outcome_of_words vars clauses earlier (piece word n ∷ []) []) (let p : n + 0 + 1 ≡ n + 1 = omega arith in p)

-- a piece of the line that goes on with the word
word_part : (vars clauses : ℕ) (earlier : List Piece) (word : List ℕ) (n b : ℕ) (bs : List ℕ) (w : WordSoFar) (o : HasPart (slice_split is_newline bs)) → is_newline b ≡ false
    → number_rest (numbers.Word w) vars clauses earlier word n (b ∷ bs)
    ≡ outcome_of_words vars clauses earlier (words_after (n - length word) (word ++ b ∷ o.0)) (placed_after (n + 1 + length o.0 + 1) o.1) (n + 1 + length bs + 1)
word_part vars clauses earlier word n b bs w o e =
    ap (λ (parts : List (List ℕ)). number_outcome (numbers.Word w) vars clauses earlier word n parts (n + length (b ∷ bs) + 1)) (split_on is_newline b bs o e)
    ∙ moved (λ m over. outcome_of_words vars clauses earlier (words_after (n - length word) (word ++ b ∷ o.0)) (placed_after m o.1) over) (n + length (b ∷ o.0) + 1) (n + 1 + length o.0 + 1) (n + length (b ∷ bs) + 1) (n + 1 + length bs + 1) (omega arith) (omega arith)

pub record WordAndLine (vars clauses : ℕ) (earlier : List Piece) (word : Piece) (n : ℕ) (bs : List ℕ) (whole : Outcome) : Type 0 where
  pub words : List Piece
  pub lines : List Piece
  pub over : ℕ
  pub first : whole ≡ outcome_of_words vars clauses earlier (word ∷ words) lines over
  pub later : (next : List Piece) → outcome_of_words vars clauses next words lines over ≡ number_rest numbers.Gap vars clauses next [] (n + 1) bs

-- the word ends before a blank
pub word_blank : (vars clauses : ℕ) (earlier : List Piece) (word : List ℕ) (n b : ℕ) (bs : List ℕ) (w : WordSoFar) → is_newline b ≡ false → is_blank b ≡ true → 0 < length word → length word ≤ n → has_no_blank word ≡ true
    → WordAndLine vars clauses earlier (piece word n) n bs (number_rest (numbers.Word w) vars clauses earlier word n (b ∷ bs))
word_blank vars clauses earlier word n b bs w e blank some within h =
    let o = split_part is_newline bs in
    let place : n - length word + length word ≡ n = omega (arith, within) in
    record {
      words = words_after (n + 1) o.0;
      lines = placed_after (n + 1 + length o.0 + 1) o.1;
      over = n + 1 + length bs + 1;
      first =
          word_part vars clauses earlier word n b bs w o e
          ∙ ap (λ (ws : List Piece). outcome_of_words vars clauses earlier ws (placed_after (n + 1 + length o.0 + 1) o.1) (n + 1 + length bs + 1)) (word_then (n - length word) word o.0 some h b blank)
          ∙ ap (λ (k : ℕ). outcome_of_words vars clauses earlier (piece word k ∷ words_after (k + 1) o.0) (placed_after (n + 1 + length o.0 + 1) o.1) (n + 1 + length bs + 1)) place;
      later = λ next. ap (λ (parts : List (List ℕ)). number_outcome numbers.Gap vars clauses next [] (n + 1) parts (n + 1 + length bs + 1)) (sym o.2);
    }

-- the word goes on
pub word_more : (vars clauses : ℕ) (earlier : List Piece) (word : List ℕ) (n b : ℕ) (bs : List ℕ) (w v : WordSoFar) → is_newline b ≡ false → length word ≤ n
    → number_rest (numbers.Word w) vars clauses earlier word n (b ∷ bs) ≡ number_rest (numbers.Word v) vars clauses earlier (word ++ b ∷ []) (n + 1) bs
word_more vars clauses earlier word n b bs w v e within =
    let o = split_part is_newline bs in
    let size = length-append word (b ∷ []) in
    word_part vars clauses earlier word n b bs w o e
    ∙ ap (λ (ls : List ℕ). outcome_of_words vars clauses earlier (words_after (n - length word) ls) (placed_after (n + 1 + length o.0 + 1) o.1) (n + 1 + length bs + 1)) (sym (append_assoc word (b ∷ []) o.0))
    ∙ ap (λ (k : ℕ). outcome_of_words vars clauses earlier (words_after k ((word ++ b ∷ []) ++ o.0)) (placed_after (n + 1 + length o.0 + 1) o.1) (n + 1 + length bs + 1)) (let p : n - length word ≡ n + 1 - length (word ++ b ∷ []) = omega (arith, size, within) in p)
    ∙ ap (λ (parts : List (List ℕ)). number_outcome (numbers.Word v) vars clauses earlier (word ++ b ∷ []) (n + 1) parts (n + 1 + length bs + 1)) (sym o.2)
