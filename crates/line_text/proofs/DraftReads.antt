-- Readers of lines that keep a draft, beside the values that complete what they read.
use Rattle.std.proofs.Common.{◌≡◌, ◌↔◌, ℕ, ◌+◌, ◌<◌, ◌^◌, ◌∙◌, Bool, true, false, List, [], ◌∷◌, ◌++◌, length, map, refl, sym, ap, subst, arith, append_assoc, Option, Some, None, Result, Ok, Err, IfOk}
use Rattle.std.specs.Prelude.{option_and_then, IsTrue}
use Rattle.std.specs.List.{concat, flat_map}
use Rattle.std.proofs.lemmas.List.{append-nil, map-append, length-append}
use Rattle.std.proofs.lemmas.List.Folds.{list_all-append}
use Rattle.lk_model.specs.Texts.Lines.{Word}
use Rattle.lk_model.specs.Texts.PlainText.{line}
use Rattle.lk_model.specs.Documents.Reading.{cut_lines, StopsAs}
use Rattle.lk_model.specs.declared.list.OutOfMemory.{OutOfMemory}
use Rattle.lk_model.proofs.Booleans.{and_true}
use Rattle.line_text.specs.DraftReading.{DraftReader, run, IsCompletedBy}
use Rattle.line_text.specs.Fields.{fields}
use Rattle.line_text.specs.LineReading.{are_whole_lines, IsReadBy, CanComplete, LeadsOn, LeadsNowhere, TakesLine, EndsWith}
use Rattle.line_text.specs.Taking.{IsTaken}
use Rattle.line_text.proofs.CleanWords.{is_clean_line, are_clean, line_fields, words_of_line, same_lines, goes_on_by, cut_lines_in_row, clean_whole}
use Rattle.line_text.proofs.LineCuts.{lines_in_row}
use Rattle.line_text.proofs.Takings.{taken_next, not_taken}

-- WHAT A READER SHOWS

-- the next draft is in form, and has read one line more
pub record IsStepOf {D V : Type 0} (r : DraftReader D V) (IsDraft : D → Type 0) (d e : D) (words : List Word) : Type 0 where
  pub form : IsDraft e
  pub lines : r.lines e ≡ r.lines d ++ words ∷ []

-- a value in form whose first lines are those that were read
pub record GoesOn {D V : Type 0} (r : DraftReader D V) (d : D) : Type 0 where
  pub value : V
  pub form : r.is_value value ≡ true
  pub more : List (List Word)
  pub lines : r.value_lines value ≡ r.lines d ++ more

-- the lines of the value lead to a draft that is it
pub record RunsTo {D V : Type 0} (r : DraftReader D V) (value : V) : Type 0 where
  pub draft : D
  pub runs : run r r.fresh (r.value_lines value) ≡ Some draft
  pub is : r.finished draft ≡ Some value

-- the value is in form, and its lines are those that were read
pub record IsWhole {D V : Type 0} (r : DraftReader D V) (d : D) (value : V) : Type 0 where
  pub form : r.is_value value ≡ true
  pub lines : r.value_lines value ≡ r.lines d

-- Drafts in form lead to drafts in form, each goes on to a value, and the lines of a value lead to it.
pub record IsDrafting {D V : Type 0} (r : DraftReader D V) (IsDraft : D → Type 0) : Type 0 where
  pub begins : IsDraft r.fresh
  pub nothing : r.lines r.fresh ≡ []
  pub step : (d e : D) (words : List Word) → IsDraft d → r.next d words ≡ Some e → IsStepOf r IsDraft d e words
  pub goes_on : (d : D) → IsDraft d → length (r.lines d) < 2 ^ 63 → GoesOn r d
  pub clean : (value : V) → are_clean (r.value_lines value) ≡ true
  pub runs : (value : V) → r.is_value value ≡ true → RunsTo r value
  pub ends : (d : D) (value : V) → IsDraft d → r.finished d ≡ Some value → IsWhole r d value

-- WHAT LINES LEAD TO

run_append : {D V : Type 0} (r : DraftReader D V) (d e : D) (ls ms : List (List Word)) → run r d ls ≡ Some e → run r d (ls ++ ms) ≡ run r e ms
run_append {D = D} r d e [] ms h = let same : d ≡ e = cc in ap (λ (x : D). run r x ms) same
run_append {D = D} r d e (words ∷ ls) ms h = by_next (λ x g. run_append r x e ls ms g) (r.next d words) h
  where
    by_next : ((x : D) → run r x ls ≡ Some e → run r x (ls ++ ms) ≡ run r e ms) → (o : Option D)
        → option_and_then (λ x. run r x ls) o ≡ Some e → option_and_then (λ x. run r x (ls ++ ms)) o ≡ run r e ms
    by_next later None g = absurd (let f : ⊥ = cc in f)
    by_next later (Some x) g = later x g

-- lines that a run takes lead on to the next one
run_last : {D V : Type 0} (r : DraftReader D V) (d e x : D) (ls : List (List Word)) (words : List Word) (ms : List (List Word)) → run r d ls ≡ Some e → run r d (ls ++ words ∷ ms) ≡ Some x
    → (y : D) × (r.next e words ≡ Some y)
run_last {D = D} r d e x ls words ms h g = by_next (r.next e words) refl (sym (run_append r d e ls (words ∷ ms) h) ∙ g)
  where
    by_next : (o : Option D) → r.next e words ≡ o → option_and_then (λ z. run r z ms) o ≡ Some x → (y : D) × (r.next e words ≡ Some y)
    by_next None t f = absurd (let n : ⊥ = cc in n)
    by_next (Some y) t f = (y, t)

-- drafts in form lead to drafts in form
runs_form : {D V : Type 0} (r : DraftReader D V) (IsDraft : D → Type 0) → IsDrafting r IsDraft → (d e : D) (lines : List (List Word)) → IsDraft d → run r d lines ≡ Some e → IsDraft e
runs_form {D = D} r IsDraft i d e [] h g = let same : d ≡ e = cc in subst IsDraft same h
runs_form {D = D} r IsDraft i d e (words ∷ lines) h g = by_next (λ x f s. runs_form r IsDraft i x e lines f s) (r.next d words) refl g
  where
    by_next : ((x : D) → IsDraft x → run r x lines ≡ Some e → IsDraft e) → (o : Option D) → r.next d words ≡ o → option_and_then (λ x. run r x lines) o ≡ Some e → IsDraft e
    by_next later None t f = absurd (let n : ⊥ = cc in n)
    by_next later (Some x) t f = later x (i.step d x words h t).form f

-- the draft is what its lines lead to
abbrev pub IsRunOf : {D V : Type 0} → DraftReader D V → D → Type 0
IsRunOf r d = run r r.fresh (r.lines d) ≡ Some d

pub draft_form : {D V : Type 0} (r : DraftReader D V) (IsDraft : D → Type 0) → IsDrafting r IsDraft → (d : D) → IsRunOf r d → IsDraft d
draft_form r IsDraft i d h = runs_form r IsDraft i r.fresh d (r.lines d) i.begins h

-- one line more
reads_on : {D V : Type 0} (r : DraftReader D V) (IsDraft : D → Type 0) → IsDrafting r IsDraft → (d next : D) (raw : List ℕ) → IsRunOf r d → r.next d (fields raw) ≡ Some next
    → IsRunOf r next × (length (r.lines next) ≡ length (r.lines d) + 1)
reads_on r IsDraft i d next raw h leads =
    let words = fields raw in
    let step = i.step d next words (draft_form r IsDraft i d h) leads in
    let one : run r d (words ∷ []) ≡ Some next = ap (option_and_then (λ e. run r e [])) leads in (
      ap (run r r.fresh) step.lines ∙ run_append r r.fresh d (r.lines d) (words ∷ []) h ∙ one,
      omega (arith, ap length step.lines, length-append (r.lines d) (words ∷ [])),
    )

-- WHAT COMPLETES A DRAFT

-- the lines that were read are clean, and those of some value that are after them
clean_parts : {D V : Type 0} (r : DraftReader D V) (IsDraft : D → Type 0) → IsDrafting r IsDraft → (d : D) (g : GoesOn r d) → (are_clean (r.lines d) ≡ true) × (are_clean g.more ≡ true)
clean_parts r IsDraft i d g =
    and_true (are_clean (r.lines d)) (are_clean g.more) (sym (list_all-append is_clean_line (r.lines d) g.more) ∙ ap are_clean (sym g.lines) ∙ i.clean g.value)

-- some value does
can_complete : {D V : Type 0} (r : DraftReader D V) (IsDraft : D → Type 0) → IsDrafting r IsDraft → (d : D) → IsDraft d → length (r.lines d) < 2 ^ 63 → CanComplete (IsCompletedBy r d)
can_complete r IsDraft i d h few =
    let g = i.goes_on d h few in
    let clean = (clean_parts r IsDraft i d g).1 in
    let cut = cut_lines_in_row g.more clean in (
      concat (map line g.more),
      (
        g.value,
        record {
          whole = ap are_whole_lines cut ∙ clean_whole g.more clean;
          lines = record {
            form = g.form;
            lines = ap (map line) g.lines ∙ map-append line (r.lines d) g.more ∙ ap (λ (ls : List (List ℕ)). map line (r.lines d) ++ ls) (sym cut);
          };
        },
      ),
    )

-- a line that is taken
leads_on : {D V : Type 0} (r : DraftReader D V) (IsDraft : D → Type 0) → IsDrafting r IsDraft → (d next : D) (raw : List ℕ) → IsDraft d → length (r.lines d) + 1 < 2 ^ 63 → r.next d (fields raw) ≡ Some next
    → LeadsOn (IsCompletedBy r d) (IsCompletedBy r next) (raw ++ 10 ∷ [])
leads_on r IsDraft i d next raw h few n =
    let words = fields raw in
    let step = i.step d next words h n in
    let longer : (more : List (List ℕ)) → map line (r.lines next) ++ more ≡ map line (r.lines d) ++ (raw ++ 10 ∷ []) ∷ more =
    λ more.
    ap (λ (ls : List (List Word)). map line ls ++ more) step.lines
    ∙ ap (λ (ls : List (List ℕ)). ls ++ more) (map-append line (r.lines d) (words ∷ []))
    ∙ ap (λ (l : List ℕ). (map line (r.lines d) ++ l ∷ []) ++ more) (line_fields raw)
    ∙ append_assoc (map line (r.lines d)) ((raw ++ 10 ∷ []) ∷ []) more in
    record {
      same = λ value more. (λ c. record { form = c.form; lines = c.lines ∙ longer more }, λ c. record { form = c.form; lines = c.lines ∙ sym (longer more) });
      completed = can_complete r IsDraft i next step.form (omega (arith, few, ap length step.lines, length-append (r.lines d) (words ∷ [])));
    }

-- a line that is not
leads_nowhere : {D V : Type 0} (r : DraftReader D V) (IsDraft : D → Type 0) → IsDrafting r IsDraft → (d : D) (raw : List ℕ) → IsRunOf r d → length (r.lines d) < 2 ^ 63 → r.next d (fields raw) ≡ None
    → LeadsNowhere (IsCompletedBy r d) (raw ++ 10 ∷ [])
leads_nowhere r IsDraft i d raw h few n value more c =
    let clean = (clean_parts r IsDraft i d (i.goes_on d (draft_form r IsDraft i d h) few)).0 in
    let by = goes_on_by (r.value_lines value) (r.lines d) (raw ++ 10 ∷ []) more (i.clean value) clean c.lines in
    let whole = i.runs value c.form in
    let next = run_last r r.fresh d whole.draft (r.lines d) by.words by.more h (ap (run r r.fresh) (sym by.whole) ∙ whole.runs) in
    let same = words_of_line by.words raw by.clean by.spelled in
    let some : None ≡ Some next.0 = sym n ∙ ap (r.next d) (sym same) ∙ next.1 in
    cc

takes_line : {D V : Type 0} (r : DraftReader D V) (IsDraft : D → Type 0) → IsDrafting r IsDraft → (d next : D) (raw : List ℕ) (taken : Bool) → IsRunOf r d → length (r.lines d) + 1 < 2 ^ 63
    → IsTaken (r.next d (fields raw)) taken next → TakesLine (IsCompletedBy r d) (IsCompletedBy r next) raw taken
takes_line r IsDraft i d next raw true h few n = leads_on r IsDraft i d next raw (draft_form r IsDraft i d h) few (taken_next (r.next d (fields raw)) true next n refl)
takes_line r IsDraft i d next raw false h few n = leads_nowhere r IsDraft i d raw h (omega (arith, few)) (not_taken (r.next d (fields raw)) false next n refl)

-- the same of what reading a line answers
pub if_takes : {D V : Type 0} (r : DraftReader D V) (IsDraft : D → Type 0) → IsDrafting r IsDraft → (d next : D) (raw : List ℕ) (res : Result Bool OutOfMemory) → IsRunOf r d → length (r.lines d) + 1 < 2 ^ 63
    → IfOk res (λ taken. IsTaken (r.next d (fields raw)) taken next) → IfOk res (TakesLine (IsCompletedBy r d) (IsCompletedBy r next) raw)
if_takes r IsDraft i d next raw (Ok taken) h few n = takes_line r IsDraft i d next raw taken h few n
if_takes r IsDraft i d next raw (Err e) h few n = tt

pub if_reads_on : {D V : Type 0} (r : DraftReader D V) (IsDraft : D → Type 0) → IsDrafting r IsDraft → (d next : D) (raw : List ℕ) (res : Result Bool OutOfMemory) → IsRunOf r d
    → IfOk res (λ taken. IsTaken (r.next d (fields raw)) taken next)
    → IfOk res (λ taken. IsTrue taken → IsRunOf r next) × IfOk res (λ taken. IsTrue taken → length (r.lines next) ≡ length (r.lines d) + 1)
if_reads_on r IsDraft i d next raw (Ok taken) h n = (
  λ t. (reads_on r IsDraft i d next raw h (taken_next (r.next d (fields raw)) taken next n t)).0,
  λ t. (reads_on r IsDraft i d next raw h (taken_next (r.next d (fields raw)) taken next n t)).1,
)
if_reads_on r IsDraft i d next raw (Err e) h n = (tt, tt)

-- THE END

-- a whole value
ends_whole : {D V : Type 0} (r : DraftReader D V) (IsDraft : D → Type 0) → IsDrafting r IsDraft → (d : D) (value : V) → IsRunOf r d → r.finished d ≡ Some value → IsCompletedBy r d value []
ends_whole r IsDraft i d value h e =
    let w = i.ends d value (draft_form r IsDraft i d h) e in
    record { form = w.form; lines = ap (map line) w.lines ∙ sym (append-nil (map line (r.lines d))) }

-- two values whose lines lead to one draft
same_value : {D V : Type 0} (r : DraftReader D V) (d e : D) (value other : V) → Some d ≡ Some e → r.finished d ≡ Some value → r.finished e ≡ Some other → value ≡ other
same_value {D = D} r d e value other h f g =
    let draft : d ≡ e = cc in
    let same : Some value ≡ Some other = sym f ∙ ap r.finished draft ∙ g in
    cc

-- none
ends_nowhere : {D V : Type 0} (r : DraftReader D V) (IsDraft : D → Type 0) → IsDrafting r IsDraft → (d : D) → IsRunOf r d → length (r.lines d) < 2 ^ 63 → r.finished d ≡ None
    → (value : V) → IsCompletedBy r d value [] → ⊥
ends_nowhere r IsDraft i d h few n value c =
    let clean = (clean_parts r IsDraft i d (i.goes_on d (draft_form r IsDraft i d h) few)).0 in
    let same = same_lines (r.value_lines value) (r.lines d) (i.clean value) clean (c.lines ∙ append-nil (map line (r.lines d))) in
    let whole = i.runs value c.form in
    let one : Some whole.draft ≡ Some d = sym whole.runs ∙ ap (run r r.fresh) same ∙ h in
    let draft : whole.draft ≡ d = cc in
    let some : None ≡ Some value = sym n ∙ ap r.finished (sym draft) ∙ whole.is in
    cc

pub ends_with : {D V : Type 0} (r : DraftReader D V) (IsDraft : D → Type 0) → IsDrafting r IsDraft → (d : D) (o : Option V) → IsRunOf r d → length (r.lines d) < 2 ^ 63 → o ≡ r.finished d
    → EndsWith (IsCompletedBy r d) o
ends_with r IsDraft i d (Some value) h few e = ends_whole r IsDraft i d value h (sym e)
ends_with r IsDraft i d None h few e = ends_nowhere r IsDraft i d h few (sym e)

-- WHOLE TEXTS

-- before the first line
pub can_begin : {D V : Type 0} (r : DraftReader D V) (IsDraft : D → Type 0) → IsDrafting r IsDraft → CanComplete (IsCompletedBy r r.fresh)
can_begin r IsDraft i = can_complete r IsDraft i r.fresh i.begins (omega (arith, ap length i.nothing))

-- lines in a row
pub in_row : (lines : List (List Word)) → concat (map line lines) ≡ flat_map line lines
in_row [] = refl
in_row (words ∷ lines) = ap (λ (s : List ℕ). line words ++ s) (in_row lines)

-- the text is that of the value, which is in form
pub record IsTextBy {D V : Type 0} (r : DraftReader D V) (bytes : List ℕ) (value : V) : Type 0 where
  pub form : r.is_value value ≡ true
  pub text : bytes ≡ flat_map line (r.value_lines value)

-- its lines are those of the value
lines_of_text : {D V : Type 0} (r : DraftReader D V) (IsDraft : D → Type 0) → IsDrafting r IsDraft → (bytes : List ℕ) (value : V) → IsTextBy r bytes value → cut_lines bytes ≡ map line (r.value_lines value)
lines_of_text r IsDraft i bytes value t = ap cut_lines (t.text ∙ sym (in_row (r.value_lines value))) ∙ cut_lines_in_row (r.value_lines value) (i.clean value)

-- what is read is the text of the value
pub is_text : {D V : Type 0} (r : DraftReader D V) (IsDraft : D → Type 0) → IsDrafting r IsDraft → (bytes : List ℕ) (value : V) → IsReadBy (IsCompletedBy r r.fresh) bytes value → IsTextBy r bytes value
is_text r IsDraft i bytes value h =
    let lines : map line (r.value_lines value) ≡ cut_lines bytes = h.lines.lines ∙ ap (λ (ls : List (List Word)). map line ls ++ cut_lines bytes) i.nothing in
    record { form = h.lines.form; text = sym (lines_in_row bytes) ∙ ap concat (sym lines) ∙ in_row (r.value_lines value) }

-- and the text of a value is read
pub is_read : {D V : Type 0} (r : DraftReader D V) (IsDraft : D → Type 0) → IsDrafting r IsDraft → (bytes : List ℕ) (value : V) → IsTextBy r bytes value → IsReadBy (IsCompletedBy r r.fresh) bytes value
is_read r IsDraft i bytes value t =
    let cut = lines_of_text r IsDraft i bytes value t in
    record {
      whole = ap are_whole_lines cut ∙ clean_whole (r.value_lines value) (i.clean value);
      lines = record { form = t.form; lines = sym cut ∙ sym (ap (λ (ls : List (List Word)). map line ls ++ cut_lines bytes) i.nothing) };
    }

-- a text is that of one value at most
pub one_value : {D V : Type 0} (r : DraftReader D V) (IsDraft : D → Type 0) → IsDrafting r IsDraft → (bytes : List ℕ) (value other : V) → IsTextBy r bytes value → IsTextBy r bytes other → value ≡ other
one_value r IsDraft i bytes value other s t =
    let w = i.runs value s.form in
    let v = i.runs other t.form in
    let lines = same_lines (r.value_lines value) (r.value_lines other) (i.clean value) (i.clean other)
    (sym (lines_of_text r IsDraft i bytes value s) ∙ lines_of_text r IsDraft i bytes other t) in
    same_value r w.draft v.draft value other (sym w.runs ∙ ap (run r r.fresh) lines ∙ v.runs) w.is v.is

-- a text stops at one line for two sets of texts that are the same
pub stops_same : (Texts Others : List ℕ → Type 0) → ((bytes : List ℕ) → Texts bytes ↔ Others bytes) → (bytes : List ℕ) (number : ℕ) → StopsAs Texts bytes number → StopsAs Others bytes number
stops_same Texts Others same bytes number s = record {
  stops = λ g. s.stops (record { text = g.text; admitted = (same g.text).1 g.admitted; same = g.same });
  first = λ k below. let g = s.first k below in record { text = g.text; admitted = (same g.text).0 g.admitted; same = g.same };
}
