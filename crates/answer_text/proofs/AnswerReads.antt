-- A text that is read as an answer.
use Rattle.std.proofs.Common.{◌≡◌, ◌↔◌, ℕ, ◌+◌, ◌<◌, ◌≤◌, ◌^◌, Bool, List, length, refl, sym, ap, subst, Option, Some, None, Result, Ok, Err, IfOk}
use Rattle.std.specs.Prelude.{IsTrue, IfErr, option_map}
use Rattle.lk_model.specs.Limits.{max_vars, max_clauses}
use Rattle.lk_model.specs.declared.list.OutOfMemory.{OutOfMemory}
use Rattle.lk_model.specs.declared.verdict.ReadStop.{ReadStop}
use Rattle.lk_model.specs.declared.verdict.ReadStop.TheVariants as reading
use Rattle.lk_model.proofs.ReadingLaws.{stops_once_as, stops_nowhere_as}
use Rattle.line_text.specs.DraftReading.{IsCompletedBy}
use Rattle.line_text.specs.Fields.{fields}
use Rattle.line_text.specs.LineReading.{Grammar, IsReadBy, IsAdmitted, CanComplete, TakesLine, EndsWith, IsStopOf}
use Rattle.line_text.specs.Taking.{IsTaken}
use Rattle.line_text.proofs.DraftReads as drafts
use Rattle.line_text.proofs.DraftReads.{IsDrafting, IsTextBy, is_text, is_read, stops_same}
use Rattle.lk_model.specs.Texts.Lines.{Word}
use Rattle.answer_text.specs.CoreDrafts as core
use Rattle.answer_text.specs.CoreDrafts.{IsReadyDraft}
use Rattle.answer_text.specs.declared.core_draft.CoreDraft.{CoreDraft}
use Rattle.answer_text.proofs.CoreDraftForms.{ready_draft}
use Rattle.lk_model.specs.Documents.Answers.{IsAnswerText, IsTextOfAnswer}
use Rattle.answer_text.specs.ReadAnswers.{IsStopAt, ReadsAnswers}
use Rattle.answer_text.specs.AnswerTextLaw.{AnswerTextLaw}
use Rattle.answer_text.specs.Drafts.{draft_lines, next_draft, finished, answer_drafts, IsRead}
use Rattle.lk_model.specs.declared.answer.Answer.{Answer}
use Rattle.answer_text.specs.declared.draft.Draft.{Draft}
use Rattle.answer_text.specs.declared.draft.Draft.TheVariants.{Nothing, Core}
use Rattle.answer_text.proofs.AnswerRuns.{clean_answer, answer_runs}
use Rattle.answer_text.proofs.DraftEnds.{draft_goes_on, draft_ends}
use Rattle.answer_text.proofs.DraftSteps.{IsDraft, draft_step}

-- answers are read by drafts
drafting : (n m : ℕ) → n ≤ max_vars → m ≤ max_clauses → IsDrafting (answer_drafts n m) (IsDraft n m)
drafting n m small few = record {
  begins = tt;
  nothing = refl;
  step = λ d e words h f. draft_step n m d e words small few h f;
  goes_on = λ d h short. draft_goes_on n m d small few h short;
  clean = clean_answer;
  runs = λ a h. answer_runs n m a small h;
  ends = λ d a h f. draft_ends n m d a small few h f;
}

-- ONE LINE

-- a core that was read is ready for one line more
pub core_ready : (n m : ℕ) (d : Draft) (c : CoreDraft) → IsRead n m d → d ≡ Core c → IsReadyDraft c
core_ready n m d c h is =
    let form = drafts.draft_form (answer_drafts n m) (IsDraft n m) (drafting n m h.vars h.clauses) d h.runs in
    ready_draft n m c h.vars h.clauses (subst (λ (x : Draft). IsDraft n m x) is form).core

pub core_taken : (n m : ℕ) (before final : Draft) (c d : CoreDraft) (words : List Word) (r : Result Bool OutOfMemory) → before ≡ Core c → final ≡ Core d
    → IfOk r (λ taken. IsTaken (core.next_draft c words) taken d) → IfOk r (λ taken. IsTaken (next_draft n m before words) taken final)
core_taken n m before final c d words (Err e) was is h = tt
core_taken n m before final c d words (Ok taken) was is h =
    subst (λ (x : Draft). IsTaken (next_draft n m before words) taken x) (sym is)
    (subst (λ (x : Draft). IsTaken (next_draft n m x words) taken (Core d)) (sym was) (by_next (core.next_draft c words) h))
  where
    by_next : (o : Option CoreDraft) → IsTaken o taken d → IsTaken (option_map Core o) taken (Core d)
    by_next None t = t
    by_next (Some next) t = (t.0, ap Core t.1)

pub if_takes : (n m : ℕ) (d next : Draft) (raw : List ℕ) (r : Result Bool OutOfMemory) → IsRead n m d → length (draft_lines d) + 1 < 2 ^ 63
    → IfOk r (λ taken. IsTaken (next_draft n m d (fields raw)) taken next) → IfOk r (TakesLine (IsCompletedBy (answer_drafts n m) d) (IsCompletedBy (answer_drafts n m) next) raw)
if_takes n m d next raw r h few t = drafts.if_takes (answer_drafts n m) (IsDraft n m) (drafting n m h.vars h.clauses) d next raw r h.runs few t

pub if_reads_on : (n m : ℕ) (d next : Draft) (raw : List ℕ) (r : Result Bool OutOfMemory) → IsRead n m d → IfOk r (λ taken. IsTaken (next_draft n m d (fields raw)) taken next)
    → IfOk r (λ taken. IsTrue taken → IsRead n m next) × IfOk r (λ taken. IsTrue taken → length (draft_lines next) ≡ length (draft_lines d) + 1)
if_reads_on n m d next raw (Err e) h t = (tt, tt)
if_reads_on n m d next raw (Ok taken) h t =
    let both = drafts.if_reads_on (answer_drafts n m) (IsDraft n m) (drafting n m h.vars h.clauses) d next raw (Ok taken) h.runs t in
    (λ yes. record { runs = both.0 yes; vars = h.vars; clauses = h.clauses }, both.1)

pub ends_with : (n m : ℕ) (d : Draft) (o : Option Answer) → IsRead n m d → length (draft_lines d) < 2 ^ 63 → o ≡ finished d → EndsWith (IsCompletedBy (answer_drafts n m) d) o
ends_with n m d o h few e = drafts.ends_with (answer_drafts n m) (IsDraft n m) (drafting n m h.vars h.clauses) d o h.runs few e

-- WHOLE TEXTS

pub can_begin : (n m : ℕ) → n ≤ max_vars → m ≤ max_clauses → CanComplete (IsCompletedBy (answer_drafts n m) Nothing)
can_begin n m small few = drafts.can_begin (answer_drafts n m) (IsDraft n m) (drafting n m small few)

pub begins : (n m : ℕ) → n ≤ max_vars → m ≤ max_clauses → IsRead n m Nothing
begins n m small few = record { runs = refl; vars = small; clauses = few }

answer_text_of : (n m : ℕ) (bytes : List ℕ) (a : Answer) → IsTextBy (answer_drafts n m) bytes a → IsAnswerText n m bytes a
answer_text_of n m bytes a t = record { form = t.form; text = t.text }

text_of_answer : (n m : ℕ) (bytes : List ℕ) (a : Answer) → IsAnswerText n m bytes a → IsTextBy (answer_drafts n m) bytes a
text_of_answer n m bytes a t = record { form = t.form; text = t.text }

-- the texts that are read are those of answers
same_texts : (n m : ℕ) → n ≤ max_vars → m ≤ max_clauses → (bytes : List ℕ) → IsAdmitted (IsCompletedBy (answer_drafts n m) Nothing) bytes ↔ IsTextOfAnswer n m bytes
same_texts n m small few bytes = (
  λ w. (w.0, answer_text_of n m bytes w.0 (is_text (answer_drafts n m) (IsDraft n m) (drafting n m small few) bytes w.0 w.1)),
  λ w. (w.0, is_read (answer_drafts n m) (IsDraft n m) (drafting n m small few) bytes w.0 (text_of_answer n m bytes w.0 w.1)),
)

-- a fresh reader is one of answers
pub reads_answers : (n m : ℕ) → n ≤ max_vars → m ≤ max_clauses → ReadsAnswers n m (IsCompletedBy (answer_drafts n m) Nothing)
reads_answers n m small few = record {
  text = λ bytes a h. answer_text_of n m bytes a (is_text (answer_drafts n m) (IsDraft n m) (drafting n m small few) bytes a h);
  stop = stop_by;
}
  where
    stop_by : (bytes : List ℕ) (stop : ReadStop) → IsStopOf (IsAdmitted (IsCompletedBy (answer_drafts n m) Nothing)) bytes stop → IsStopAt n m bytes stop
    stop_by bytes (reading.Line number) h =
        stops_same (IsAdmitted (IsCompletedBy (answer_drafts n m) Nothing)) (IsTextOfAnswer n m) (same_texts n m small few) bytes number h
    stop_by bytes reading.OutOfMemory h = tt

pub if_text : (n m : ℕ) (Completes : Grammar Answer) (bytes : List ℕ) (r : Result Answer ReadStop) → ReadsAnswers n m Completes → IfOk r (IsReadBy Completes bytes) → IfOk r (IsAnswerText n m bytes)
if_text n m Completes bytes (Ok a) d h = d.text bytes a h
if_text n m Completes bytes (Err stop) d h = tt

pub if_stop : (n m : ℕ) (Completes : Grammar Answer) (bytes : List ℕ) (r : Result Answer ReadStop) → ReadsAnswers n m Completes → IfErr r (IsStopOf (IsAdmitted Completes) bytes) → IfErr r (IsStopAt n m bytes)
if_stop n m Completes bytes (Ok a) d h = tt
if_stop n m Completes bytes (Err stop) d h = d.stop bytes stop h

-- what is determined of a text
pub answer_text_law : AnswerTextLaw
answer_text_law = record {
  once = λ n m bytes a b small few s t.
      drafts.one_value (answer_drafts n m) (IsDraft n m) (drafting n m small few) bytes a b (text_of_answer n m bytes a s) (text_of_answer n m bytes b t);
  never = λ n m bytes a line t s. stops_nowhere_as (IsTextOfAnswer n m) bytes line (a, t) s;
  stop = λ n m bytes k line p q. stops_once_as (IsTextOfAnswer n m) bytes k line p q;
}
