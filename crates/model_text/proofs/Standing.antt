-- Where a reader of a model text stands, byte by byte.
use Rattle.std.proofs.Common.{◌≡◌, ◌∙◌, ℕ, ◌+◌, ◌<◌, ◌^◌, Bool, true, false, List, [], ◌∷◌, ◌++◌, length, refl, sym, ap, subst, append_assoc, arith, ℤ}
use Rattle.std.specs.Prelude.{flat_map, Result, Ok, Err, OnOk}
use Rattle.std.proofs.lemmas.List.{append-nil, length-append}
use Rattle.lk_model.specs.Formulas.Assignment.{assignment_of}
use Rattle.lk_model.specs.Held.PartialValues.{assignment_by}
use Rattle.lk_model.specs.Texts.Lines.{Word}
use Rattle.lk_model.specs.Texts.ModelText.{line_numbers, word_lines, model_of}
use Rattle.lk_model.specs.declared.verdict.ReadStop.{ReadStop}
use Rattle.lk_text.specs.Cutting.{is_one_line}
use Rattle.model_text.specs.ModelTexts.{Gives, TakesLine, IsModelRead, IsModelStop, words_in}
use Rattle.model_text.specs.Fed.{StandsAt, HasTaken, IsSound, IsSettledAs}
use Rattle.model_text.specs.declared.reading.ModelDraft.{ModelDraft}
use Rattle.model_text.specs.declared.progress.Progress.{Progress}
use Rattle.model_text.proofs.Lines.{line_ended, line_last}
use Rattle.model_text.proofs.Texts.{line_read, line_faulty, all_read}

-- before the first byte
pub stands_first : (n : ℕ) (unended : List ℕ) (d : ModelDraft) → unended ≡ [] → assignment_by d.values ≡ assignment_of [] → d.closed ≡ false → StandsAt n [] unended 0 d
stands_first n unended d none values open_still = record {
  before = [];
  count = refl;
  read = record { lawful = refl; gives = record { fine = refl; values = values; closed = open_still } };
  goes_on = λ more. ap (λ (bs : List ℕ). word_lines (bs ++ more)) (sym none);
}

-- one byte more, before what comes after it
pub behind_byte : (fed more : List ℕ) (b : ℕ) → (fed ++ b ∷ []) ++ more ≡ fed ++ b ∷ more
behind_byte fed more b = append_assoc fed (b ∷ []) more

-- the open line goes on
pub line_longer : (n : ℕ) (fed unended next : List ℕ) (lines b : ℕ) (d : ModelDraft) → StandsAt n fed unended lines d → next ≡ unended ++ b ∷ [] → StandsAt n (fed ++ b ∷ []) next lines d
line_longer n fed unended next lines b d s same = record {
  before = s.before;
  count = s.count;
  read = s.read;
  goes_on = λ more.
      ap word_lines (behind_byte fed more b) ∙ s.goes_on (b ∷ more)
      ∙ ap (λ (bs : List ℕ). s.before ++ word_lines bs) (sym (behind_byte unended more b) ∙ ap (λ (bs : List ℕ). bs ++ more) (sym same));
}

-- the lines where it ends here
ended_lines : (n : ℕ) (fed unended more : List ℕ) (lines : ℕ) (d : ModelDraft) → (s : StandsAt n fed unended lines d) → is_one_line unended ≡ true
    → word_lines ((fed ++ 10 ∷ []) ++ more) ≡ s.before ++ words_in unended ∷ word_lines more
ended_lines n fed unended more lines d s h =
    ap word_lines (behind_byte fed more 10) ∙ s.goes_on (10 ∷ more) ∙ ap (λ (ls : List (List Word)). s.before ++ ls) (line_ended unended more h)

-- a line by its answer
by_answer : (m n : ℕ) (numbers : List ℤ) (words : List Word) (taken answer : Bool) (next : ModelDraft) → m ≡ n → taken ≡ answer
    → TakesLine m numbers words taken next → TakesLine n numbers words answer next
by_answer m n numbers words taken answer next same e h =
    subst (λ (b : Bool). TakesLine n numbers words b next) e (subst (λ (k : ℕ). TakesLine k numbers words taken next) same h)

-- whatever the lines before gave, the line was taken or is faulty
abbrev pub Takes : ModelDraft → List ℕ → Bool → ModelDraft → Type 0
Takes d line taken next = (numbers : List ℤ) → Gives numbers d → TakesLine (length d.values) numbers (words_in line) taken next

-- it ends, and was taken
pub line_ends : (n : ℕ) (fed unended now : List ℕ) (lines b : ℕ) (d next : ModelDraft) (taken : Bool) → b ≡ 10 → StandsAt n fed unended lines d → is_one_line unended ≡ true → length d.values ≡ n
    → Takes d unended taken next → taken ≡ true → now ≡ [] → StandsAt n (fed ++ b ∷ []) now (lines + 1) next
line_ends n fed unended now lines b d next taken e s h size takes was none =
    let words = words_in unended in
    let numbers = flat_map line_numbers s.before in
    subst (λ (k : ℕ). StandsAt n (fed ++ k ∷ []) now (lines + 1) next) (sym e) (record {
      before = s.before ++ words ∷ [];
      count = omega (arith, s.count, length-append s.before (words ∷ []));
      read = line_read n s.before words d next s.read (by_answer (length d.values) n numbers words taken true next size was (takes numbers s.read.gives));
      goes_on = λ more.
          ended_lines n fed unended more lines d s h ∙ sym (append_assoc s.before (words ∷ []) (word_lines more))
          ∙ ap (λ (bs : List ℕ). (s.before ++ words ∷ []) ++ word_lines (bs ++ more)) (sym none);
    })

-- it ends, and is faulty, however the text goes on
pub line_stops : (n : ℕ) (fed unended more : List ℕ) (lines b : ℕ) (d next : ModelDraft) (taken : Bool) → b ≡ 10 → StandsAt n fed unended lines d → is_one_line unended ≡ true → length d.values ≡ n
    → Takes d unended taken next → taken ≡ false → model_of ((fed ++ b ∷ []) ++ more) n ≡ Err (lines + 1)
line_stops n fed unended more lines b d next taken e s h size takes was =
    let words = words_in unended in
    let numbers = flat_map line_numbers s.before in
    let faulty = by_answer (length d.values) n numbers words taken false next size was (takes numbers s.read.gives) in
    let parts = ended_lines n fed unended more lines d s h ∙ sym (append_assoc s.before (words ∷ []) (word_lines more)) in
    subst (λ (k : ℕ). model_of ((fed ++ k ∷ []) ++ more) n ≡ Err (lines + 1)) (sym e)
    (line_faulty ((fed ++ 10 ∷ []) ++ more) n s.before (word_lines more) words d next s.read faulty parts ∙ ap (λ (k : ℕ). Err (k + 1)) (sym s.count))

-- THE END

-- the lines of the text that ends here
last_lines : (n : ℕ) (fed unended : List ℕ) (lines : ℕ) (d : ModelDraft) → (s : StandsAt n fed unended lines d) → is_one_line unended ≡ true → word_lines fed ≡ s.before ++ words_in unended ∷ []
last_lines n fed unended lines d s h =
    ap word_lines (sym (append-nil fed)) ∙ s.goes_on []
    ∙ ap (λ (bs : List ℕ). s.before ++ word_lines bs) (append-nil unended)
    ∙ ap (λ (ls : List (List Word)). s.before ++ ls) (line_last unended h)

-- its last line was taken
pub last_read : (n : ℕ) (fed unended : List ℕ) (lines : ℕ) (d next : ModelDraft) (taken : Bool) → StandsAt n fed unended lines d → is_one_line unended ≡ true → length d.values ≡ n → length next.values ≡ length d.values
    → Takes d unended taken next → taken ≡ true → IsModelRead fed n next.values
last_read n fed unended lines d next taken s h size same takes was =
    let words = words_in unended in
    let numbers = flat_map line_numbers s.before in
    all_read fed n (s.before ++ words ∷ []) next
    (line_read n s.before words d next s.read (by_answer (length d.values) n numbers words taken true next size was (takes numbers s.read.gives)))
    (same ∙ size) (last_lines n fed unended lines d s h)

-- or is faulty
pub last_stops : (n : ℕ) (fed unended : List ℕ) (lines : ℕ) (d next : ModelDraft) (taken : Bool) → StandsAt n fed unended lines d → is_one_line unended ≡ true → length d.values ≡ n → Takes d unended taken next → taken ≡ false
    → model_of fed n ≡ Err (lines + 1)
last_stops n fed unended lines d next taken s h size takes was =
    let words = words_in unended in
    let numbers = flat_map line_numbers s.before in
    let faulty = by_answer (length d.values) n numbers words taken false next size was (takes numbers s.read.gives) in
    line_faulty fed n s.before [] words d next s.read faulty (last_lines n fed unended lines d s h ∙ sym (append-nil (s.before ++ words ∷ [])))
    ∙ ap (λ (k : ℕ). Err (k + 1)) (sym s.count)

-- A PIECE

-- a stop stays that, however the text goes on
pub settled_later : (n : ℕ) (bytes rest : List ℕ) (stop : ReadStop) → IsSettledAs n bytes stop → IsSettledAs n (bytes ++ rest) stop
settled_later n bytes rest stop h = λ more. subst (λ (bs : List ℕ). IsModelStop bs n stop) (sym (append_assoc bytes rest more)) (h (rest ++ more))

-- and is that of the text that ends here
pub settled_here : (n : ℕ) (bytes : List ℕ) (stop : ReadStop) → IsSettledAs n bytes stop → IsModelStop bytes n stop
settled_here n bytes stop h = subst (λ (bs : List ℕ). IsModelStop bs n stop) (append-nil bytes) (h [])

-- how many bytes a reader took
pub limit_taken : (n : ℕ) (fed : List ℕ) (progress : Progress) (r : Result (Unit {0}) ReadStop) → OnOk r (HasTaken n fed progress) → OnOk r (IsSound progress) → OnOk r (length fed < 2 ^ 63)
limit_taken n fed progress (Ok x) h s = omega (arith, h.size, s.limit)
limit_taken n fed progress (Err e) h s = tt
