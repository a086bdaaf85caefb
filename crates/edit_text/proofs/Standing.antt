-- Where a text of edits stands, byte by byte.
use Rattle.std.proofs.Common.{◌≡◌, ◌≢◌, not, ◌≤◌, ◌∙◌, ℕ, zero, suc, ◌+◌, ◌-◌, ◌==◌, Bool, true, false, cond, List, [], ◌∷◌, ◌++◌, length, take, refl, sym, ap, subst, append_assoc, arith, Some, None}
use Rattle.std.specs.Prelude.{count_by, nat_lt, Result, Ok, Err, OnOk}
use Rattle.std.proofs.lemmas.Bool.{lt-ltb, eqb-true}
use Rattle.std.proofs.lemmas.List.Sums.{sum_by-append}
use Rattle.std.proofs.lemmas.List.{append-nil, length-append, take_at}
use Rattle.lk_model.specs.Limits.{max_bytes}
use Rattle.lk_model.specs.Formulas.Formula.{Cnf}
use Rattle.lk_model.specs.Texts.Lines.{Word, is_newline}
use Rattle.lk_model.specs.Texts.ModelText.{word_lines}
use Rattle.lk_text.specs.Cutting.{is_one_line}
use Rattle.model_text.specs.ModelTexts.{words_in}
use Rattle.lk_model.proofs.ListTests.{all_more}
use Rattle.model_text.proofs.Numbers.{fails}
use Rattle.model_text.proofs.Lines.{line_ended, line_last}
use Rattle.model_text.proofs.Standing.{behind_byte}
use Rattle.edit_text.specs.LiveClauses.{LiveClauses, live_of}
use Rattle.edit_text.specs.Edits.{CanBeMade, after_all}
use Rattle.edit_text.proofs.EditTexts.{lines_made}
use Rattle.edit_text.specs.EditText.{IsEdits, IsFaultyAt, edits_in, line_faults, live_behind}
use Rattle.edit_text.specs.Fed.{Tells, TakesLine, IsSoundDraft, IsSoundLine, line_behind, Stands, HasTaken, IsSettledAs, IsRefusalOf, StandsInLine, IsFirstFault, line_edits}
use Rattle.edit_text.specs.declared.edit.Edit.{Edit}
use Rattle.edit_text.specs.declared.edit.EditFault.{EditFault}
use Rattle.edit_text.specs.declared.edit.EditFault.TheVariants.{PastLimit}
use Rattle.edit_text.specs.declared.draft.Draft.{Draft}
use Rattle.edit_text.specs.declared.refusal.EditsRefused.{EditsRefused}
use Rattle.edit_text.specs.declared.progress.OpenLine.{OpenLine}
use Rattle.edit_text.specs.declared.progress.Progress.{Progress}
use Rattle.edit_text.proofs.TextLines.{edits_more, live_more, faults_behind, none_more, first_more}

-- the lines where the open line ends here
ended_lines : (F : Cnf) (fed more : List ℕ) (line : ℕ) (open_line : OpenLine) → (s : StandsInLine F fed line open_line) → is_one_line open_line.bytes.items ≡ true
    → word_lines ((fed ++ 10 ∷ []) ++ more) ≡ s.before ++ words_in open_line.bytes.items ∷ word_lines more
ended_lines F fed more line open_line s h =
    ap word_lines (behind_byte fed more 10) ∙ s.goes_on (10 ∷ more) ∙ ap (λ (ls : List (List Word)). s.before ++ ls) (line_ended open_line.bytes.items more h)

-- it ends without a fault
pub line_fine : (F : Cnf) (fed : List ℕ) (line : ℕ) (open_line next : OpenLine) → (s : StandsInLine F fed line open_line) → is_one_line open_line.bytes.items ≡ true
    → TakesLine (live_behind F s.before) (edits_in F.vars s.before) (words_in open_line.bytes.items) None next.draft → next.bytes.items ≡ []
    → StandsInLine F (fed ++ 10 ∷ []) (line + 1) next
line_fine F fed line open_line next s h taken bytes =
    let words = words_in open_line.bytes.items in
    record {
      before = s.before ++ words ∷ [];
      count = omega (arith, s.count, length-append s.before (words ∷ []));
      fine = none_more F s.before words s.fine taken.0;
      tells = subst (λ (live : LiveClauses). Tells live (edits_in F.vars (s.before ++ words ∷ [])) next.draft) (sym (live_more F s.before words))
          (subst (λ (es : List Edit). Tells (after_all (live_behind F s.before) (line_edits (live_behind F s.before) words)) es next.draft) (sym (edits_more F s.before words)) taken.1);
      goes_on = λ more.
          ended_lines F fed more line open_line s h ∙ sym (append_assoc s.before (words ∷ []) (word_lines more))
          ∙ ap (λ (bs : List ℕ). (s.before ++ words ∷ []) ++ word_lines (bs ++ more)) (sym bytes);
    }

-- it ends with one
pub line_wrong : (F : Cnf) (fed : List ℕ) (line : ℕ) (open_line : OpenLine) (fault : EditFault) (draft : Draft) → (s : StandsInLine F fed line open_line) → is_one_line open_line.bytes.items ≡ true
    → TakesLine (live_behind F s.before) (edits_in F.vars s.before) (words_in open_line.bytes.items) (Some fault) draft → IsFirstFault F (fed ++ 10 ∷ []) line fault
line_wrong F fed line open_line fault draft s h taken = λ more.
    let words = words_in open_line.bytes.items in (
      faults_behind F (s.before ++ words ∷ []) (word_lines more),
      ap (line_faults F) (ended_lines F fed more line open_line s h) ∙ first_more F s.before (word_lines more) words fault s.fine taken
          ∙ ap (λ (k : ℕ). (k, fault) ∷ faults_behind F (s.before ++ words ∷ []) (word_lines more)) (sym s.count),
    )

-- by the byte that comes
not_newline : (b : ℕ) → b ≢ 10 → is_newline b ≡ false
not_newline b other = fails (b == 10) (λ e. other (eqb-true b 10 e))

pub behind_newline : (line b : ℕ) → b ≡ 10 → line_behind line b ≡ line + 1
behind_newline line b e = ap (line_behind line) e

pub behind_other : (line b : ℕ) → b ≢ 10 → line_behind line b ≡ line
behind_other line b other = ap (λ (t : Bool). cond t (line + 1) line) (not_newline b other)

pub sound_longer : (open_line next : OpenLine) (b : ℕ) → b ≢ 10 → IsSoundLine open_line → next.draft ≡ open_line.draft → next.bytes.items ≡ open_line.bytes.items ++ b ∷ [] → IsSoundLine next
sound_longer open_line next b other s draft bytes = record {
  draft = subst IsSoundDraft (sym draft) s.draft;
  one_line = ap is_one_line bytes ∙ all_more (λ k. not (is_newline k)) open_line.bytes.items b s.one_line (ap not (not_newline b other));
}

pub end_fine : (F : Cnf) (fed : List ℕ) (line b : ℕ) (open_line next : OpenLine) → b ≡ 10 → is_one_line open_line.bytes.items ≡ true → (s : StandsInLine F fed line open_line)
    → TakesLine (live_behind F s.before) (edits_in F.vars s.before) (words_in open_line.bytes.items) None next.draft → next.bytes.items ≡ []
    → StandsInLine F (fed ++ b ∷ []) (line_behind line b) next
end_fine F fed line b open_line next e h s taken bytes =
    subst (λ (k : ℕ). StandsInLine F (fed ++ k ∷ []) (line_behind line k) next) (sym e) (line_fine F fed line open_line next s h taken bytes)

pub end_wrong : (F : Cnf) (fed : List ℕ) (line b : ℕ) (open_line : OpenLine) (fault : EditFault) (draft : Draft) → b ≡ 10 → is_one_line open_line.bytes.items ≡ true
    → (s : StandsInLine F fed line open_line) → TakesLine (live_behind F s.before) (edits_in F.vars s.before) (words_in open_line.bytes.items) (Some fault) draft
    → IsFirstFault F (fed ++ b ∷ []) line fault
end_wrong F fed line b open_line fault draft e h s taken =
    subst (λ (k : ℕ). IsFirstFault F (fed ++ k ∷ []) line fault) (sym e) (line_wrong F fed line open_line fault draft s h taken)

-- a fault stays the first one
pub still_first : (F : Cnf) (fed more : List ℕ) (line : ℕ) (fault : EditFault) → IsFirstFault F fed line fault → IsFirstFault F (fed ++ more) line fault
still_first F fed more line fault h = λ rest.
    let found = h (more ++ rest) in
    (found.0, ap (λ (bs : List ℕ). line_faults F (word_lines bs)) (append_assoc fed more rest) ∙ found.1)

-- one byte more is counted
line_counted : (fed : List ℕ) (line b : ℕ) → line ≡ count_by is_newline fed + 1 → line_behind line b ≡ count_by is_newline (fed ++ b ∷ []) + 1
line_counted fed line b is = by_test (is_newline b) refl
  where
    more : count_by is_newline (fed ++ b ∷ []) ≡ count_by is_newline fed + (0 + cond (is_newline b) (suc zero) zero)
    more = sum_by-append (λ k. cond (is_newline k) 1 0) fed (b ∷ [])

    by_test : (t : Bool) → is_newline b ≡ t → line_behind line b ≡ count_by is_newline (fed ++ b ∷ []) + 1
    by_test true e =
        let here : line_behind line b ≡ line + 1 = ap (λ (t : Bool). cond t (line + 1) line) e in
        let one : cond (is_newline b) (suc zero) zero ≡ suc zero = ap (λ (t : Bool). cond t (suc zero) zero) e in
        omega (arith, is, more, here, one)
    by_test false e =
        let here : line_behind line b ≡ line = ap (λ (t : Bool). cond t (line + 1) line) e in
        let none : cond (is_newline b) (suc zero) zero ≡ zero = ap (λ (t : Bool). cond t (suc zero) zero) e in
        omega (arith, is, more, here, none)

pub byte_taken : (F : Cnf) (fed : List ℕ) (progress next : Progress) (b : ℕ) → HasTaken F fed progress → progress.bytes ≢ max_bytes → next.bytes ≡ progress.bytes + 1
    → next.line ≡ line_behind progress.line b → Stands F (fed ++ b ∷ []) (line_behind progress.line b) next.stage → HasTaken F (fed ++ b ∷ []) next
byte_taken F fed progress next b h room bytes line stands =
    let longer = length-append fed (b ∷ []) in
    record {
      size = omega (arith, bytes, h.size, longer);
      few = omega (arith, h.few, h.size, room, longer);
      line = line ∙ line_counted fed progress.line b h.line;
      stands = subst (λ (k : ℕ). Stands F (fed ++ b ∷ []) k next.stage) (sym line) stands;
    }

-- THE END

short : (text : List ℕ) → length text ≤ max_bytes → nat_lt max_bytes (length text) ≡ false
short text h = not_below max_bytes (length text) h
  where
    not_below : (a b : ℕ) → b ≤ a → nat_lt a b ≡ false
    not_below a b le = grind arith

-- the text has no fault
pub are_edits : (F : Cnf) (text : List ℕ) → length text ≤ max_bytes → line_faults F (word_lines text) ≡ [] → IsEdits F (edits_in F.vars (word_lines text)) text
are_edits F text few none = rw (short text few, none) refl

-- or a first one
pub is_faulty : (F : Cnf) (text : List ℕ) (line : ℕ) (fault : EditFault) (others : List (ℕ × EditFault)) → length text ≤ max_bytes
    → line_faults F (word_lines text) ≡ (line, fault) ∷ others → IsFaultyAt F text line fault
is_faulty F text line fault others few first = rw (short text few, first) refl

-- the lines of the text that ends here
last_lines : (F : Cnf) (fed : List ℕ) (line : ℕ) (open_line : OpenLine) → (s : StandsInLine F fed line open_line) → is_one_line open_line.bytes.items ≡ true
    → word_lines fed ≡ s.before ++ words_in open_line.bytes.items ∷ []
last_lines F fed line open_line s h =
    ap word_lines (sym (append-nil fed)) ∙ s.goes_on []
    ∙ ap (λ (bs : List ℕ). s.before ++ word_lines bs) (append-nil open_line.bytes.items)
    ∙ ap (λ (ls : List (List Word)). s.before ++ ls) (line_last open_line.bytes.items h)

pub last_fine : (F : Cnf) (fed : List ℕ) (line : ℕ) (open_line : OpenLine) (draft : Draft) → (s : StandsInLine F fed line open_line) → is_one_line open_line.bytes.items ≡ true
    → length fed ≤ max_bytes → TakesLine (live_behind F s.before) (edits_in F.vars s.before) (words_in open_line.bytes.items) None draft → IsEdits F draft.edits fed
last_fine F fed line open_line draft s h few taken =
    let words = words_in open_line.bytes.items in
    let lines = last_lines F fed line open_line s h in
    subst (λ (es : List Edit). IsEdits F es fed) (ap (edits_in F.vars) lines ∙ edits_more F s.before words ∙ sym taken.1.edits_are)
    (are_edits F fed few (ap (line_faults F) lines ∙ none_more F s.before words s.fine taken.0))

pub last_made : (F : Cnf) (fed : List ℕ) (line : ℕ) (open_line : OpenLine) (draft : Draft) → (s : StandsInLine F fed line open_line)
    → TakesLine (live_behind F s.before) (edits_in F.vars s.before) (words_in open_line.bytes.items) None draft → CanBeMade (live_of F) draft.edits
last_made F fed line open_line draft s taken =
    let words = words_in open_line.bytes.items in
    subst (λ (es : List Edit). CanBeMade (live_of F) es) (edits_more F s.before words ∙ sym taken.1.edits_are)
    (lines_made F (s.before ++ words ∷ []) (none_more F s.before words s.fine taken.0))

-- or that fault
pub last_wrong : (F : Cnf) (fed : List ℕ) (line : ℕ) (open_line : OpenLine) (fault : EditFault) (draft : Draft) → (s : StandsInLine F fed line open_line) → is_one_line open_line.bytes.items ≡ true
    → length fed ≤ max_bytes → TakesLine (live_behind F s.before) (edits_in F.vars s.before) (words_in open_line.bytes.items) (Some fault) draft → IsFaultyAt F fed line fault
last_wrong F fed line open_line fault draft s h few taken =
    let words = words_in open_line.bytes.items in
    is_faulty F fed line fault (faults_behind F (s.before ++ words ∷ []) []) few
    (ap (line_faults F) (last_lines F fed line open_line s h) ∙ first_more F s.before [] words fault s.fine taken
    ∙ ap (λ (k : ℕ). (k, fault) ∷ faults_behind F (s.before ++ words ∷ []) []) (sym s.count))

-- a fault that was found before
pub faulty_text : (F : Cnf) (fed : List ℕ) (line : ℕ) (fault : EditFault) → length fed ≤ max_bytes → IsFirstFault F fed line fault → IsFaultyAt F fed line fault
faulty_text F fed line fault few h =
    let found = h [] in
    is_faulty F fed line fault found.0 few (ap (λ (bs : List ℕ). line_faults F (word_lines bs)) (sym (append-nil fed)) ∙ found.1)

-- A TEXT THAT IS TOO LONG

pub too_long : (F : Cnf) (fed more : List ℕ) (b line : ℕ) → length fed ≡ max_bytes → line ≡ count_by is_newline fed + 1 → IsFaultyAt F ((fed ++ b ∷ []) ++ more) line PastLimit
too_long F fed more b line full is =
    let text = (fed ++ b ∷ []) ++ more in
    let size : length text ≡ max_bytes + 1 + length more = omega (arith, full, length-append (fed ++ b ∷ []) more, length-append fed (b ∷ [])) in
    let long : nat_lt max_bytes (length text) ≡ true = lt-ltb max_bytes (length text) (omega (arith, size)) in
    let place : max_bytes + 1 - 1 ≡ max_bytes = omega arith in
    let front : take (max_bytes + 1 - 1) text ≡ fed = ap (take (max_bytes + 1 - 1)) (behind_byte fed more b) ∙ take_at fed (b ∷ more) (max_bytes + 1 - 1) (full ∙ sym place) in
    rw long (ap (λ (k : ℕ). Err (k, PastLimit)) (ap (λ (bs : List ℕ). count_by is_newline bs + 1) front ∙ sym is))

-- a refusal stays that, however the text goes on
pub settled_later : (F : Cnf) (bytes rest : List ℕ) (r : EditsRefused) → IsSettledAs F bytes r → IsSettledAs F (bytes ++ rest) r
settled_later F bytes rest r h = λ more. subst (λ (bs : List ℕ). IsRefusalOf F bs r) (sym (append_assoc bytes rest more)) (h (rest ++ more))

-- what was taken fits
pub fits_when_taken : (F : Cnf) (fed : List ℕ) (progress : Progress) (r : Result (Unit {0}) EditsRefused) → OnOk r (HasTaken F fed progress) → OnOk r (length fed ≤ max_bytes)
fits_when_taken F fed progress (Ok u) h = h.few
fits_when_taken F fed progress (Err e) h = h
