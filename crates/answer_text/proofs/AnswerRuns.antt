-- The lines of an answer, read one after another.
use Rattle.std.proofs.Common.{◌≡◌, ℕ, ◌+◌, ◌<◌, ◌≤◌, ◌∙◌, Bool, true, false, cond, ◌&&◌, ◌==◌, List, [], ◌∷◌, ◌++◌, length, map, refl, sym, ap, arith, ℤ, Option, Some, None}
use Rattle.std.specs.Prelude.{codes, option_map, option_and_then}
use Rattle.std.specs.Fmt.{signed_decimal}
use Rattle.std.proofs.lemmas.Bool.{eqb-true, ne_eqb}
use Rattle.std.proofs.lemmas.List.{append-nil}
use Rattle.lk_model.specs.Limits.{max_vars}
use Rattle.lk_model.specs.Texts.Lines.{Word}
use Rattle.lk_model.specs.Documents.Text.{step_line, round_lines}
use Rattle.lk_model.specs.Documents.Form.{are_steps, is_whole}
use Rattle.lk_model.specs.declared.document.Round.{Round}
use Rattle.lk_model.specs.declared.document.MusAnswer.{MusAnswer}
use Rattle.lk_model.specs.Documents.CoreText.{is_core_in_form, core_line, without_line}
use Rattle.lk_model.specs.Texts.PlainText.{formula_lines}
use Rattle.lk_model.proofs.Booleans.{and_true}
use Rattle.line_text.specs.DraftReading.{run}
use Rattle.line_text.proofs.CleanNumbers.{clean_ended, clean_literals, lines_cons}
use Rattle.line_text.proofs.CleanWords.{are_clean}
use Rattle.line_text.proofs.DraftReads.{RunsTo}
use Rattle.line_text.proofs.ListForms.{literals_back, literals_rising}
use Rattle.round_text.specs.RoundLines.{rounds_next}
use Rattle.round_text.specs.declared.read_rounds.RoundsPart.{RoundsPart}
use Rattle.round_text.proofs.CleanRounds.{clean_round}
use Rattle.answer_text.proofs.OneRounds.{over_some}
use Rattle.round_text.proofs.RoundRuns.{rounds_run, shut_at, whole_run, numbered_from_first}
use Rattle.answer_text.specs.CoreDrafts as core
use Rattle.answer_text.specs.CoreDrafts.{size_line, is_core_of, core_drafts}
use Rattle.answer_text.specs.declared.core_draft.CoreDraft.{CoreDraft}
use Rattle.answer_text.specs.declared.core_draft.LineDue.TheVariants.{Sizes}
use Rattle.answer_text.proofs.CoreRuns.{clean_core, core_runs}
use Rattle.answer_text.proofs.CoreDraftForms.{early}
use Rattle.lk_model.proofs.CoreForms.{core_form}
use Rattle.lk_model.specs.Documents.Answers.{is_answer, is_total, state_line, value_line, answer_lines}
use Rattle.answer_text.specs.Drafts.{if_total, open_round, answer_drafts}
use Rattle.lk_model.specs.declared.answer.Answer.{Answer}
use Rattle.lk_model.specs.declared.answer.Answer.TheVariants as answer
use Rattle.answer_text.specs.declared.draft.Draft.{Draft}
use Rattle.answer_text.specs.declared.draft.Draft.TheVariants.{Model, Unsatisfiable, Refuting, Core}
use Rattle.lk_model.proofs.TotalLists.{total_rises}

-- CLEAN WORDS

pub clean_answer : (a : Answer) → are_clean (answer_lines a) ≡ true
clean_answer (answer.Model lits) =
    lines_cons (state_line (codes "SATISFIABLE")) (value_line lits ∷ []) refl
    (lines_cons (value_line lits) [] (clean_ended (map signed_decimal lits) (clean_literals lits)) refl)
clean_answer (answer.Refuted r) = lines_cons (state_line (codes "UNSATISFIABLE")) (round_lines r) refl (clean_round r)
clean_answer (answer.Core a) = clean_core a

-- A MODEL

model_runs : (n m : ℕ) (lits : List ℤ) → n ≤ max_vars → is_total n lits ≡ true → RunsTo (answer_drafts n m) (answer.Model lits)
model_runs n m lits small h = record {
  draft = Model lits;
  runs = ap (λ (o : Option (List ℤ)). option_and_then (λ (e : Draft). run (answer_drafts n m) e []) (option_and_then (if_total n) o)) (literals_back true n 0 lits small (literals_rising n 0 lits (total_rises n lits h)))
      ∙ ap (λ (b : Bool). option_and_then (λ (e : Draft). run (answer_drafts n m) e []) (cond b (Some (Model lits)) None)) (and_true _ (length lits == n) h).1;
  is = refl;
}

-- A REFUTATION

-- the lines of its steps
run_refuting : (n m : ℕ) (p : RoundsPart) (lines : List (List Word)) → run (answer_drafts n m) (Refuting p) lines ≡ option_map Refuting (rounds_run false n m p lines)
run_refuting n m p [] = refl
run_refuting n m p (words ∷ lines) = by_next (λ q. run_refuting n m q lines) (rounds_next false n m p words)
  where
    by_next : ((q : RoundsPart) → run (answer_drafts n m) (Refuting q) lines ≡ option_map Refuting (rounds_run false n m q lines)) → (o : Option RoundsPart)
        → option_and_then (λ (e : Draft). run (answer_drafts n m) e lines) (option_map Refuting o) ≡ option_map Refuting (option_and_then (λ (q : RoundsPart). rounds_run false n m q lines) o)
    by_next later None = refl
    by_next later (Some q) = later q

refutation_runs : (n m : ℕ) (r : Round) → n ≤ max_vars → is_answer n m (answer.Refuted r) ≡ true → RunsTo (answer_drafts n m) (answer.Refuted r)
refutation_runs n m r small h =
    let both = and_true (are_steps n m r.steps) (is_whole r) h in
    let some = over_some n m r.steps both.0 both.1 in
    let none : (m == 0) ≡ false = ne_eqb m 0 (λ e. omega (arith, e, some)) in
    let lines = map step_line r.steps in
    let drafts = answer_drafts n m in
    let rounds : rounds_run false n m open_round lines ≡ Some (shut_at (r ∷ []) (0 + length r.steps)) =
    ap (rounds_run false n m open_round) (sym (append-nil lines)) ∙ whole_run false n m [] [] r.steps 0 [] small both.1 (numbered_from_first n m r.steps both.0) in
    record {
      draft = Refuting (shut_at (r ∷ []) (0 + length r.steps));
      runs = ap (λ (b : Bool). option_and_then (λ (e : Draft). run drafts e (round_lines r)) (cond b None (Some Unsatisfiable))) none
          ∙ run_refuting n m open_round lines
          ∙ ap (option_map Refuting) rounds;
      is = refl;
    }

-- A CORE

-- the lines after its first one
run_core : (n m : ℕ) (d : CoreDraft) (lines : List (List Word)) → run (answer_drafts n m) (Core d) lines ≡ option_map Core (run (core_drafts n m) d lines)
run_core n m d [] = refl
run_core n m d (words ∷ lines) = by_next (λ e. run_core n m e lines) (core.next_draft d words)
  where
    by_next : ((e : CoreDraft) → run (answer_drafts n m) (Core e) lines ≡ option_map Core (run (core_drafts n m) e lines)) → (o : Option CoreDraft)
        → option_and_then (λ (x : Draft). run (answer_drafts n m) x lines) (option_map Core o) ≡ option_map Core (option_and_then (λ (e : CoreDraft). run (core_drafts n m) e lines) o)
    by_next later None = refl
    by_next later (Some e) = later e

-- a core is over some clauses
core_some : (n m : ℕ) (a : MusAnswer) → is_core_of n m a ≡ true → 0 < m
core_some n m a h =
    let both = and_true (a.vars == n && a.clauses == m) (is_core_in_form a) h in
    let same = eqb-true a.clauses m (and_true (a.vars == n) (a.clauses == m) both.0).1 in
    let form = core_form a both.1 in
    omega (arith, same, over_some a.vars a.clauses a.round.steps form.steps form.whole)

core_answer_runs : (n m : ℕ) (a : MusAnswer) → is_core_of n m a ≡ true → RunsTo (answer_drafts n m) (answer.Core a)
core_answer_runs n m a h =
    let some = core_some n m a h in
    let none : (m == 0) ≡ false = ne_eqb m 0 (λ e. omega (arith, e, some)) in
    let r = core_runs n m a h in
    let rest = ((size_line a.vars a.clauses ∷ core_line a.core ∷ round_lines a.round) ++ map without_line a.without) ++ formula_lines a.texts in
    record {
      draft = Core r.draft;
      runs = ap (λ (b : Bool). option_and_then (λ (e : Draft). run (answer_drafts n m) e rest) (cond b None (Some (Core (early Sizes n m))))) none
          ∙ run_core n m (early Sizes n m) rest
          ∙ ap (option_map Core) r.runs;
      is = ap (option_map answer.Core) r.is;
    }

pub answer_runs : (n m : ℕ) (a : Answer) → n ≤ max_vars → is_answer n m a ≡ true → RunsTo (answer_drafts n m) a
answer_runs n m (answer.Model lits) small h = model_runs n m lits small h
answer_runs n m (answer.Refuted r) small h = refutation_runs n m r small h
answer_runs n m (answer.Core a) small h = core_answer_runs n m a h
