-- What was read of a document, and the documents that complete it.
use Rattle.std.proofs.Common.{◌≡◌, ℕ, ◌+◌, ◌<◌, ◌^◌, ◌∙◌, Bool, true, false, cond, ◌&&◌, ◌==◌, List, [], ◌∷◌, ◌++◌, length, take, map, refl, sym, ap, subst, arith, append_assoc, Option, Some, None, Result, Ok, Err, IfOk}
use Rattle.std.specs.Prelude.{option_and_then, IsTrue, IfErr}
use Rattle.std.specs.List.{concat}
use Rattle.std.proofs.lemmas.Bool.{eqb-true}
use Rattle.std.proofs.lemmas.List.{append-nil, map-append, length-append}
use Rattle.std.proofs.lemmas.List.Folds.{list_all-append}
use Rattle.lk_model.specs.Held.Growing.{Growing}
use Rattle.lk_model.specs.Texts.Lines.{Word}
use Rattle.lk_model.specs.Texts.PlainText.{line}
use Rattle.lk_model.specs.Documents.Reading.{cut_lines, IsTextOfDocument, StopsAt, StopsAs}
use Rattle.lk_model.specs.Documents.Text.{text_of, text_lines, document_lines}
use Rattle.lk_model.specs.declared.document.Document.{Document}
use Rattle.lk_model.specs.declared.verdict.ReadStop.{ReadStop}
use Rattle.lk_model.specs.declared.verdict.ReadStop.TheVariants as reading
use Rattle.lk_model.specs.declared.list.OutOfMemory.{OutOfMemory}
use Rattle.lk_model.proofs.Booleans.{and_true}
use Rattle.line_text.specs.Fields.{fields}
use Rattle.line_text.specs.Taking.{IsTaken}
use Rattle.line_text.specs.LineReading.{are_whole_lines, Grammar, IsReadBy, IsAdmitted, CanComplete, LeadsOn, LeadsNowhere, TakesLine, EndsWith, IsStopOf}
use Rattle.line_text.proofs.LineCuts.{lines_in_row}
use Rattle.line_text.proofs.CleanWords.{is_clean_line, are_clean, line_fields, words_of_line, same_lines, goes_on_by, cut_lines_in_row, clean_whole}
use Rattle.line_text.proofs.Takings.{taken_next, not_taken}
use Rattle.cert_text.specs.declared.draft.Draft.{Draft}
use Rattle.cert_text.specs.declared.draft.LineDue.{LineDue}
use Rattle.cert_text.specs.declared.draft.LineDue.TheVariants.{Format, Sizes, Protect, Keep, Set, Learned, Body, Clauses}
use Rattle.cert_text.specs.Drafts.{fresh_draft, lines_read, lines_before, clause_count, next_draft, is_at_clauses, document_by, finished, run}
use Rattle.formula_text.specs.FormulaLines.{IsReadyAgain}
use Rattle.cert_text.specs.Taking.{IsSmall}
use Rattle.cert_text.specs.Completing.{IsCompletedBy, IsRead}
use Rattle.cert_text.specs.ReadTexts.{IsStopAt, ReadsDocuments, IsOfOneDocument, HasOneText, StopsNowhere}
use Rattle.cert_text.proofs.CleanLines.{clean_document}
use Rattle.cert_text.proofs.DraftSteps.{IsDraft, IsDraftAt, draft_step, draft_facts, vars_limit, clauses_limit, kept_limit}
use Rattle.cert_text.proofs.Completed.{IsWholeDraft, whole_lines, whole_form, goes_on}
use Rattle.cert_text.proofs.Runs.{run_append, run_last}
use Rattle.cert_text.proofs.WholeRuns.{document_runs}

-- WHAT LINES LEAD TO

-- drafts in form lead to drafts in form
runs_form : (d e : Draft) (lines : List (List Word)) → IsDraft d → run d lines ≡ Some e → IsDraft e
runs_form d e [] h r = let same : d ≡ e = cc in subst (λ (x : Draft). IsDraft x) same h
runs_form d e (words ∷ lines) h r = by_next (λ x f s. runs_form x e lines f s) (next_draft d words) refl r
  where
    by_next : ((x : Draft) → IsDraft x → run x lines ≡ Some e → IsDraft e) → (o : Option Draft) → next_draft d words ≡ o → option_and_then (λ x. run x lines) o ≡ Some e → IsDraft e
    by_next later None t f = absurd (let n : ⊥ = cc in n)
    by_next later (Some x) t f = later x (draft_step d x words h t).form f

draft_form : (d : Draft) → run fresh_draft (lines_read d) ≡ Some d → IsDraft d
draft_form d r = runs_form fresh_draft d (lines_read d) refl r

-- the numbers of such a draft are within the limits
pub small_draft : (d : Draft) (growing : Growing) → IsRead d growing → IsSmall d
small_draft d growing h =
    let f = draft_facts d (draft_form d h.runs) in
    record { vars = vars_limit d f; clauses = clauses_limit d f; kept = kept_limit d f; texts = f.texts_vars }

-- one line more
reads_on : (d next : Draft) (growing ready : Growing) (raw : List ℕ) (taken : Bool) → IsRead d growing → IsTaken (next_draft d (fields raw)) taken next → IsReadyAgain taken next.vars ready → taken ≡ true
    → IsRead next ready × (length (lines_read next) ≡ length (lines_read d) + 1)
reads_on d next growing ready raw taken h n again t =
    let words = fields raw in
    let leads = taken_next (next_draft d words) taken next n t in
    let step = draft_step d next words (draft_form d h.runs) leads in
    let one : run d (words ∷ []) ≡ Some next = ap (λ (o : Option Draft). option_and_then (λ e. run e []) o) leads in (
      record {
        runs = ap (run fresh_draft) step.lines ∙ run_append fresh_draft d (lines_read d) (words ∷ []) h.runs ∙ one;
        ready = subst (λ (b : Bool). IsReadyAgain b next.vars ready) t again;
      },
      omega (arith, ap length step.lines, length-append (lines_read d) (words ∷ [])),
    )

-- WHAT COMPLETES A DRAFT

-- the lines that were read are clean, as those of a document are
clean_read : (d : Draft) → IsDraft d → length (lines_read d) < 2 ^ 63 → are_clean (lines_read d) ≡ true
clean_read d h few =
    let g = goes_on d h few in
    (and_true (are_clean (lines_read d)) (are_clean g.more)
    (sym (list_all-append is_clean_line (lines_read d) g.more) ∙ ap are_clean (sym g.lines) ∙ clean_document (document_by g.whole))).0

-- some document does
can_complete : (d : Draft) → IsDraft d → length (lines_read d) < 2 ^ 63 → CanComplete (IsCompletedBy d)
unfolding text_lines
can_complete d h few =
    let g = goes_on d h few in
    let document = document_by g.whole in
    let clean = (and_true (are_clean (lines_read d)) (are_clean g.more)
    (sym (list_all-append is_clean_line (lines_read d) g.more) ∙ ap are_clean (sym g.lines) ∙ clean_document document)).1 in
    let cut = cut_lines_in_row g.more clean in (
      concat (map line g.more),
      (
        document,
        record {
          whole = ap are_whole_lines cut ∙ clean_whole g.more clean;
          lines = record {
            form = whole_form g.whole g.is_whole;
            lines = ap (map line) g.lines ∙ map-append line (lines_read d) g.more ∙ ap (λ (ls : List (List ℕ)). map line (lines_read d) ++ ls) (sym cut);
          };
        },
      ),
    )

-- a line that is taken
leads_on : (d next : Draft) (raw : List ℕ) → IsDraft d → length (lines_read d) + 1 < 2 ^ 63 → next_draft d (fields raw) ≡ Some next → LeadsOn (IsCompletedBy d) (IsCompletedBy next) (raw ++ 10 ∷ [])
leads_on d next raw h few n =
    let words = fields raw in
    let step = draft_step d next words h n in
    let longer : (more : List (List ℕ)) → map line (lines_read next) ++ more ≡ map line (lines_read d) ++ (raw ++ 10 ∷ []) ∷ more =
    λ more.
    ap (λ (ls : List (List Word)). map line ls ++ more) step.lines
    ∙ ap (λ (ls : List (List ℕ)). ls ++ more) (map-append line (lines_read d) (words ∷ []))
    ∙ ap (λ (l : List ℕ). (map line (lines_read d) ++ l ∷ []) ++ more) (line_fields raw)
    ∙ append_assoc (map line (lines_read d)) ((raw ++ 10 ∷ []) ∷ []) more in
    record {
      same = λ document more. (λ c. record { form = c.form; lines = c.lines ∙ longer more }, λ c. record { form = c.form; lines = c.lines ∙ sym (longer more) });
      completed = can_complete next step.form (omega (arith, few, ap length step.lines, length-append (lines_read d) (words ∷ [])));
    }

-- a line that is not
leads_nowhere : (d : Draft) (raw : List ℕ) → run fresh_draft (lines_read d) ≡ Some d → length (lines_read d) < 2 ^ 63 → next_draft d (fields raw) ≡ None → LeadsNowhere (IsCompletedBy d) (raw ++ 10 ∷ [])
unfolding text_lines
leads_nowhere d raw runs few n document more c =
    let by = goes_on_by (document_lines document) (lines_read d) (raw ++ 10 ∷ []) more (clean_document document) (clean_read d (draft_form d runs) few) c.lines in
    let whole = document_runs document c.form in
    let next = run_last fresh_draft d whole.draft (lines_read d) by.words by.more runs (ap (run fresh_draft) (sym by.whole) ∙ whole.runs) in
    let same = words_of_line by.words raw by.clean by.spelled in
    let some : None ≡ Some next.0 = sym n ∙ ap (next_draft d) (sym same) ∙ next.1 in
    cc

takes_line : (d next : Draft) (growing : Growing) (raw : List ℕ) (taken : Bool) → IsRead d growing → length (lines_read d) + 1 < 2 ^ 63 → IsTaken (next_draft d (fields raw)) taken next
    → TakesLine (IsCompletedBy d) (IsCompletedBy next) raw taken
takes_line d next growing raw true h few n = leads_on d next raw (draft_form d h.runs) few (taken_next (next_draft d (fields raw)) true next n refl)
takes_line d next growing raw false h few n = leads_nowhere d raw h.runs (omega (arith, few)) (not_taken (next_draft d (fields raw)) false next n refl)

-- the same of what reading a line answers
pub if_takes : (d next : Draft) (growing : Growing) (raw : List ℕ) (r : Result Bool OutOfMemory) → IsRead d growing → length (lines_read d) + 1 < 2 ^ 63 → IfOk r (λ taken. IsTaken (next_draft d (fields raw)) taken next)
    → IfOk r (TakesLine (IsCompletedBy d) (IsCompletedBy next) raw)
if_takes d next growing raw (Ok taken) h few n = takes_line d next growing raw taken h few n
if_takes d next growing raw (Err e) h few n = tt

pub if_reads_on : (d next : Draft) (growing ready : Growing) (raw : List ℕ) (r : Result Bool OutOfMemory) → IsRead d growing → IfOk r (λ taken. IsTaken (next_draft d (fields raw)) taken next) → IfOk r (λ taken. IsReadyAgain taken next.vars ready)
    → IfOk r (λ taken. IsTrue taken → IsRead next ready) × IfOk r (λ taken. IsTrue taken → length (lines_read next) ≡ length (lines_read d) + 1)
if_reads_on d next growing ready raw (Ok taken) h n again =
    (λ t. (reads_on d next growing ready raw taken h n again t).0, λ t. (reads_on d next growing ready raw taken h n again t).1)
if_reads_on d next growing ready raw (Err e) h n again = (tt, tt)

-- THE END

-- a draft with all lines
record Finished (d : Draft) (document : Document) : Type 0 where
  due : d.due ≡ Clauses
  count : length d.texts.clauses ≡ clause_count d
  is : document_by d ≡ document

clauses_due : (s : LineDue) → is_at_clauses s ≡ true → s ≡ Clauses
clauses_due Format h = absurd (let f : ⊥ = cc in f)
clauses_due Sizes h = absurd (let f : ⊥ = cc in f)
clauses_due Protect h = absurd (let f : ⊥ = cc in f)
clauses_due Keep h = absurd (let f : ⊥ = cc in f)
clauses_due Set h = absurd (let f : ⊥ = cc in f)
clauses_due Learned h = absurd (let f : ⊥ = cc in f)
clauses_due Body h = absurd (let f : ⊥ = cc in f)
clauses_due Clauses h = refl

finished_is : (d : Draft) (document : Document) → finished d ≡ Some document → Finished d document
finished_is d document e = by_test (is_at_clauses d.due && length d.texts.clauses == clause_count d) refl e
  where
    by_test : (b : Bool) → (is_at_clauses d.due && length d.texts.clauses == clause_count d) ≡ b → cond b (Some (document_by d)) None ≡ Some document → Finished d document
    by_test false t f = absurd (let n : ⊥ = cc in n)
    by_test true t f =
        let both = and_true (is_at_clauses d.due) (length d.texts.clauses == clause_count d) t in
        let same : document_by d ≡ document = cc in
        record { due = clauses_due d.due both.0; count = eqb-true (length d.texts.clauses) (clause_count d) both.1; is = same }

-- a whole document
ends_whole : (d : Draft) (document : Document) → IsDraft d → finished d ≡ Some document → IsCompletedBy d document []
unfolding text_lines
ends_whole d document h e =
    let f = finished_is d document e in
    let at_end : IsDraftAt Clauses d = subst (λ (s : LineDue). IsDraftAt s d) f.due h in
    let whole : IsWholeDraft d = record { facts = at_end.0; ends = at_end.1; count = f.count } in
    let lines : document_lines (document_by d) ≡ lines_read d = whole_lines d whole ∙ ap (λ (s : LineDue). lines_before s d) (sym f.due) in
    subst (λ (x : Document). IsCompletedBy d x []) f.is (record { form = whole_form d whole; lines = ap (map line) lines ∙ sym (append-nil (map line (lines_read d))) })

-- none
ends_nowhere : (d : Draft) → run fresh_draft (lines_read d) ≡ Some d → length (lines_read d) < 2 ^ 63 → finished d ≡ None → (document : Document) → IsCompletedBy d document [] → ⊥
unfolding text_lines
ends_nowhere d runs few n document c =
    let same = same_lines (document_lines document) (lines_read d) (clean_document document) (clean_read d (draft_form d runs) few) (c.lines ∙ append-nil (map line (lines_read d))) in
    let whole = document_runs document c.form in
    let one : Some whole.draft ≡ Some d = sym whole.runs ∙ ap (run fresh_draft) same ∙ runs in
    let draft : whole.draft ≡ d = cc in
    let some : None ≡ Some document = sym n ∙ ap finished (sym draft) ∙ whole.is in
    cc

ends_with : (d : Draft) (growing : Growing) (o : Option Document) → IsRead d growing → length (lines_read d) < 2 ^ 63 → o ≡ finished d → EndsWith (IsCompletedBy d) o
ends_with d growing (Some document) h few e = ends_whole d document (draft_form d h.runs) (sym e)
ends_with d growing None h few e = ends_nowhere d h.runs few (sym e)

pub if_ends : (d : Draft) (growing : Growing) (r : Result (Option Document) OutOfMemory) → IsRead d growing → length (lines_read d) < 2 ^ 63 → IfOk r (λ document. document ≡ finished d) → IfOk r (EndsWith (IsCompletedBy d))
if_ends d growing (Ok document) h few e = ends_with d growing document h few e
if_ends d growing (Err e) h few n = tt

-- WHOLE TEXTS

-- before the first line
pub reads_nothing : (d : Draft) (growing : Growing) → d ≡ fresh_draft → growing ≡ record { vars = 0; literals = [] } → IsRead d growing
reads_nothing d growing e g = subst (λ (x : Draft). IsRead x growing) (sym e) (record { runs = refl; ready = g })

pub can_begin : (d : Draft) → d ≡ fresh_draft → CanComplete (IsCompletedBy d)
can_begin d e = subst (λ (x : Draft). CanComplete (IsCompletedBy x)) (sym e) (can_complete fresh_draft refl (omega arith))

-- the lines of a text are those of its document
pub lines_of_text : (bytes : List ℕ) (d : Document) → IsTextOfDocument bytes d → cut_lines bytes ≡ text_lines d
unfolding text_of text_lines
lines_of_text bytes d p = ap cut_lines p.text ∙ cut_lines_in_row (document_lines d) (clean_document d)

-- what is read is the text of the document
is_text : (d : Draft) (bytes : List ℕ) (document : Document) → d ≡ fresh_draft → IsReadBy (IsCompletedBy d) bytes document → IsTextOfDocument bytes document
unfolding text_of text_lines
is_text d bytes document e h =
    let r = subst (λ (x : Draft). IsReadBy (IsCompletedBy x) bytes document) e h in
    record { form = r.lines.form; text = sym (lines_in_row bytes) ∙ ap concat (sym r.lines.lines) }

admitted : (bytes : List ℕ) (document : Document) → IsTextOfDocument bytes document → IsAdmitted (IsCompletedBy fresh_draft) bytes
unfolding text_lines
admitted bytes document p = (
  document,
  record {
    whole = ap are_whole_lines (lines_of_text bytes document p) ∙ clean_whole (document_lines document) (clean_document document);
    lines = record { form = p.form; lines = sym (lines_of_text bytes document p) };
  },
)

-- where no text of the reader goes on, no document's does
stops_at : (d : Draft) (bytes : List ℕ) (number : ℕ) → d ≡ fresh_draft → StopsAs (IsAdmitted (IsCompletedBy d)) bytes number → StopsAt bytes number
stops_at d bytes number e h = record {
  stops = λ g.
      let is : IsTextOfDocument (text_of g.document) g.document = record { form = g.form; text = refl } in
      s.stops (record { text = text_of g.document; admitted = admitted (text_of g.document) g.document is; same = g.same ∙ ap (take number) (sym (lines_of_text (text_of g.document) g.document is)) });
  first = λ k lt.
      let g = s.first k lt in
      record { document = g.admitted.0; form = g.admitted.1.lines.form; same = g.same ∙ ap (take k) (sym g.admitted.1.lines.lines) };
}
  where
    s : StopsAs (IsAdmitted (IsCompletedBy fresh_draft)) bytes number
    s = subst (λ (x : Draft). StopsAs (IsAdmitted (IsCompletedBy x)) bytes number) e h

-- a fresh reader is one of documents
pub reads_documents : (d : Draft) → d ≡ fresh_draft → ReadsDocuments (IsCompletedBy d)
reads_documents d e = record { text = λ bytes document h. is_text d bytes document e h; stop = stop_by }
  where
    stop_by : (bytes : List ℕ) (stop : ReadStop) → IsStopOf (IsAdmitted (IsCompletedBy d)) bytes stop → IsStopAt bytes stop
    stop_by bytes (reading.Line number) h = stops_at d bytes number e h
    stop_by bytes reading.OutOfMemory h = tt

pub if_text : (Completes : Grammar Document) (bytes : List ℕ) (r : Result Document ReadStop) → ReadsDocuments Completes → IfOk r (IsReadBy Completes bytes) → IfOk r (IsTextOfDocument bytes)
if_text Completes bytes (Ok document) d h = d.text bytes document h
if_text Completes bytes (Err stop) d h = tt

pub if_stop : (Completes : Grammar Document) (bytes : List ℕ) (r : Result Document ReadStop) → ReadsDocuments Completes → IfErr r (IsStopOf (IsAdmitted Completes) bytes) → IfErr r (IsStopAt bytes)
if_stop Completes bytes (Ok document) d h = tt
if_stop Completes bytes (Err stop) d h = d.stop bytes stop h

-- a text is that of one document at most
pub of_one_document : IsOfOneDocument
unfolding text_lines
of_one_document bytes d e p q =
    let w = document_runs d p.form in
    let v = document_runs e q.form in
    let lines = same_lines (document_lines d) (document_lines e) (clean_document d) (clean_document e) (sym (lines_of_text bytes d p) ∙ lines_of_text bytes e q) in
    let drafts : Some w.draft ≡ Some v.draft = sym w.runs ∙ ap (run fresh_draft) lines ∙ v.runs in
    let draft : w.draft ≡ v.draft = cc in
    let same : Some d ≡ Some e = sym w.is ∙ ap finished draft ∙ v.is in
    cc

-- a document has one text
pub has_one_text : HasOneText
has_one_text a b d p q = p.text ∙ sym q.text

-- the text of a document stops nowhere
pub stops_nowhere : StopsNowhere
stops_nowhere bytes d line p s = s.stops (record { document = d; form = p.form; same = ap (take line) (lines_of_text bytes d p) })
