-- Model texts as far as they go, and their first faulty line.
use Rattle.std.proofs.Common.{◌≡◌, ℕ, zero, suc, ◌+◌, ◌<◌, ◌≤◌, ◌∙◌, Bool, true, false, not, cond, List, [], ◌∷◌, ◌++◌, length, take, drop, refl, sym, ap, subst, append_assoc, arith, ℤ, Some, None, length-append}
use Rattle.std.specs.Prelude.{find, flat_map, Ok, Err}
use Rattle.std.specs.List.{list_all, range_with_len}
use Rattle.std.proofs.lemmas.Bool.{and_from}
use Rattle.std.proofs.lemmas.Grind.{flat_map-append}
use Rattle.std.proofs.lemmas.List.{append-nil, take-append-drop, take-append-le}
use Rattle.std.proofs.lemmas.List.Folds.{list_all-append}
use Rattle.std.proofs.Math.Seq.{take-append_seam}
use Rattle.lk_model.specs.Lists.{up_to}
use Rattle.lk_model.specs.Formulas.Assignment.{assignment_of}
use Rattle.lk_model.specs.Texts.Lines.{Word}
use Rattle.lk_model.specs.Texts.ModelText.{is_model_line, line_numbers, is_model_text, first_faulty_line, literals_among, word_lines, model_of}
use Rattle.lk_model.proofs.Booleans.{and_true}
use Rattle.lk_model.proofs.Founds.{none_found}
use Rattle.model_text.specs.ModelTexts.{Gives, TakesLine, IsModelRead, may_stand}
use Rattle.model_text.specs.Fed.{AreRead}
use Rattle.model_text.specs.declared.reading.ModelDraft.{ModelDraft}
use Rattle.model_text.proofs.Numbers.{fails, may_before}

-- the numbers of lines in a row
numbers_more : (a b : List (List Word)) → flat_map line_numbers (a ++ b) ≡ flat_map line_numbers a ++ flat_map line_numbers b
numbers_more a b = flat_map-append line_numbers a b

last_numbers : (lines : List (List Word)) (words : List Word) → flat_map line_numbers (lines ++ words ∷ []) ≡ flat_map line_numbers lines ++ line_numbers words
last_numbers lines words = numbers_more lines (words ∷ []) ∙ ap (λ (xs : List ℤ). flat_map line_numbers lines ++ xs) (append-nil (line_numbers words))

-- A text that is none stays none, however it goes on: whatever a model text begins with is one.
pub text_before : (n : ℕ) (a b : List (List Word)) → is_model_text n (a ++ b) ≡ true → is_model_text n a ≡ true
text_before n a b h =
    let p = and_true (list_all (is_model_line n) (a ++ b)) (may_stand (flat_map line_numbers (a ++ b))) h in
    let lines = and_true (list_all (is_model_line n) a) (list_all (is_model_line n) b) (sym (list_all-append (is_model_line n) a b) ∙ p.0) in
    and_from (list_all (is_model_line n) a) (may_stand (flat_map line_numbers a)) lines.0
    (may_before (flat_map line_numbers a) (flat_map line_numbers b) (sym (ap may_stand (numbers_more a b)) ∙ p.1))

text_take : (n k : ℕ) (lines : List (List Word)) → is_model_text n lines ≡ true → is_model_text n (take k lines) ≡ true
text_take n k lines h = text_before n (take k lines) (drop k lines) (ap (is_model_text n) (take-append-drop k lines) ∙ h)

-- FIRST FAULTY LINES

-- the first number from a on that passes
find_from : (t : ℕ → Bool) (a m i : ℕ) → i < m → ((k : ℕ) → a ≤ k → k < a + i → t k ≡ false) → t (a + i) ≡ true → find t (range_with_len a m) ≡ Some (a + i)
find_from t a zero i lt none here = absurd (omega (arith, lt))
find_from t a (suc m) zero lt none here =
    let place : a + 0 ≡ a = omega arith in
    ap (λ (b : Bool). cond b (Some a) (find t (range_with_len (a + 1) m))) (sym (ap t place) ∙ here) ∙ ap (λ (k : ℕ). Some k) (sym place)
find_from t a (suc m) (suc i) lt none here =
    let place : a + 1 + i ≡ a + suc i = omega arith in
    ap (λ (b : Bool). cond b (Some a) (find t (range_with_len (a + 1) m))) (none a (omega arith) (omega arith))
    ∙ find_from t (a + 1) m i (omega (arith, lt)) (λ k low high. none k (omega (arith, low)) (omega (arith, high))) (ap t place ∙ here)
    ∙ ap (λ (k : ℕ). Some k) place

-- after lines that are a model text, the line with which they are none
first_fault : (n : ℕ) (lines rest : List (List Word)) (words : List Word) → is_model_text n lines ≡ true → is_model_text n (lines ++ words ∷ []) ≡ false
    → first_faulty_line n ((lines ++ words ∷ []) ++ rest) ≡ Some (length lines + 1)
first_fault n lines rest words fine bad =
    let whole = (lines ++ words ∷ []) ++ rest in
    let t : ℕ → Bool = λ k. not (is_model_text n (take k whole)) in
    let size : length whole ≡ length lines + 1 + length rest = omega (arith, length-append (lines ++ words ∷ []) rest, length-append lines (words ∷ [])) in
    let place : 1 + length lines ≡ length lines + 1 = omega arith in
    find_from t 1 (length whole) (length lines) (omega (arith, size)) (λ k low high. earlier k (omega (arith, high))) (ap t place ∙ here) ∙ ap (λ (k : ℕ). Some k) place
  where
    earlier : (k : ℕ) → k ≤ length lines → not (is_model_text n (take k ((lines ++ words ∷ []) ++ rest))) ≡ false
    earlier k few =
        let same : take k ((lines ++ words ∷ []) ++ rest) ≡ take k lines =
        ap (take k) (append_assoc lines (words ∷ []) rest) ∙ take-append-le k lines (words ∷ rest) few in
        ap not (ap (is_model_text n) same ∙ text_take n k lines fine)

    here : not (is_model_text n (take (length lines + 1) ((lines ++ words ∷ []) ++ rest))) ≡ true
    here =
        let size : length lines + 1 ≡ length (lines ++ words ∷ []) = sym (length-append lines (words ∷ [])) in
        let same : take (length lines + 1) ((lines ++ words ∷ []) ++ rest) ≡ lines ++ words ∷ [] =
        ap (λ (k : ℕ). take k ((lines ++ words ∷ []) ++ rest)) size ∙ take-append_seam (lines ++ words ∷ []) rest in
        ap not (ap (is_model_text n) same ∙ bad)

-- a model text has none
no_fault : (n : ℕ) (lines : List (List Word)) → is_model_text n lines ≡ true → first_faulty_line n lines ≡ None
no_fault n lines h = none_found (λ k. not (is_model_text n (take k lines))) (up_to (length lines)) (λ k _. ap not (text_take n k lines h))

-- WHAT IS READ

-- one line more, or the first faulty one
pub line_read : (n : ℕ) (lines : List (List Word)) (words : List Word) (d next : ModelDraft) → AreRead n lines d
    → TakesLine n (flat_map line_numbers lines) words true next → AreRead n (lines ++ words ∷ []) next
line_read n lines words d next r h = record {
  lawful = list_all-append (is_model_line n) lines (words ∷ [])
      ∙ and_from (list_all (is_model_line n) lines) (list_all (is_model_line n) (words ∷ [])) r.lawful (and_from (is_model_line n words) true h.0 refl);
  gives = subst (λ (xs : List ℤ). Gives xs next) (sym (last_numbers lines words)) h.1;
}

text_read : (n : ℕ) (lines : List (List Word)) (d : ModelDraft) → AreRead n lines d → is_model_text n lines ≡ true
text_read n lines d r = and_from (list_all (is_model_line n) lines) (may_stand (flat_map line_numbers lines)) r.lawful r.gives.fine

-- what the first faulty line makes of a text
by_line : (bytes : List ℕ) (n line : ℕ) → first_faulty_line n (word_lines bytes) ≡ Some line → model_of bytes n ≡ Err line
by_line bytes n line e = rw (e, model_of) refl

by_none : (bytes : List ℕ) (n : ℕ) → first_faulty_line n (word_lines bytes) ≡ None → model_of bytes n ≡ Ok (literals_among (flat_map line_numbers (word_lines bytes)))
by_none bytes n e = rw (e, model_of) refl

pub line_faulty : (bytes : List ℕ) (n : ℕ) (lines rest : List (List Word)) (words : List Word) (d next : ModelDraft) → AreRead n lines d
    → TakesLine n (flat_map line_numbers lines) words false next → word_lines bytes ≡ (lines ++ words ∷ []) ++ rest → model_of bytes n ≡ Err (length lines + 1)
line_faulty bytes n lines rest words d next r h parts =
    let bad = fails (is_model_text n (lines ++ words ∷ [])) (λ fine.
    let p = and_true (list_all (is_model_line n) (lines ++ words ∷ [])) (may_stand (flat_map line_numbers (lines ++ words ∷ []))) fine in
    let tests = and_true (list_all (is_model_line n) lines) (list_all (is_model_line n) (words ∷ [])) (sym (list_all-append (is_model_line n) lines (words ∷ [])) ∙ p.0) in
    let first = and_true (is_model_line n words) true tests.1 in
    let both = and_from (is_model_line n words) (may_stand (flat_map line_numbers lines ++ line_numbers words)) first.0 (sym (ap may_stand (last_numbers lines words)) ∙ p.1) in
    let f : ⊥ = cc (sym both ∙ h) in f) in
    by_line bytes n (length lines + 1) (ap (first_faulty_line n) parts ∙ first_fault n lines rest words (text_read n lines d r) bad)

-- all lines were read
pub all_read : (bytes : List ℕ) (n : ℕ) (lines : List (List Word)) (d : ModelDraft) → AreRead n lines d → length d.values ≡ n → word_lines bytes ≡ lines
    → IsModelRead bytes n d.values
all_read bytes n lines d r size same =
    let none : first_faulty_line n (word_lines bytes) ≡ None = ap (first_faulty_line n) same ∙ no_fault n lines (text_read n lines d r) in
    record {
      literals = literals_among (flat_map line_numbers (word_lines bytes));
      text = by_none bytes n none;
      vars = size;
      values = r.gives.values ∙ ap (λ (ls : List (List Word)). assignment_of (literals_among (flat_map line_numbers ls))) (sym same);
    }
