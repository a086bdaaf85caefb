-- Drafts of answers that go on to an answer, and those that are one.
use Rattle.std.proofs.Common.{◌≡◌, ℕ, ◌<◌, ◌≤◌, ◌^◌, ◌∙◌, Bool, true, false, List, [], ◌∷◌, ◌++◌, length, refl, sym, ap, subst, arith, Some, None}
use Rattle.std.specs.Prelude.{codes}
use Rattle.std.proofs.lemmas.Bool.{and_from}
use Rattle.lk_model.specs.Limits.{max_vars, max_clauses}
use Rattle.lk_model.specs.Texts.Lines.{Word}
use Rattle.lk_model.specs.Documents.Form.{are_steps, is_whole}
use Rattle.lk_model.specs.declared.document.Round.{Round}
use Rattle.line_text.proofs.DraftReads.{GoesOn, IsWhole}
use Rattle.line_text.proofs.Options.{map_some}
use Rattle.round_text.specs.RoundLines.{rounds_lines}
use Rattle.round_text.specs.declared.read_rounds.RoundsPart.{RoundsPart}
use Rattle.answer_text.proofs.OneRounds.{one_shut, ended_lines, ended_form}
use Rattle.round_text.proofs.RoundEnds.{shut_rounds, rounds_shut, few_steps}
use Rattle.round_text.proofs.RoundParts.{IsRounds}
use Rattle.answer_text.specs.CoreDrafts as core
use Rattle.answer_text.specs.CoreDrafts.{last_round}
use Rattle.answer_text.proofs.CoreReads as core_reads
use Rattle.lk_model.specs.Documents.Answers.{is_answer, state_line, value_line, answer_lines}
use Rattle.answer_text.specs.Drafts.{draft_lines, open_round, refuted_by, finished, answer_drafts}
use Rattle.lk_model.specs.declared.answer.Answer.{Answer}
use Rattle.lk_model.specs.declared.answer.Answer.TheVariants as answer
use Rattle.answer_text.specs.declared.draft.Draft.{Draft}
use Rattle.answer_text.specs.declared.draft.Draft.TheVariants.{Nothing, Satisfiable, Model, Unsatisfiable, Refuting, Core}
use Rattle.answer_text.proofs.DraftSteps.{IsRefuting, IsDraft, open_form}
use Rattle.lk_model.proofs.TotalLists.{positives, positives_total}

-- a round that has ended is a refutation in form
refuted_form : (n m : ℕ) (p : RoundsPart) (r : Round) → IsRounds n m p → p.is_open ≡ false → p.rounds ≡ r ∷ [] → is_answer n m (answer.Refuted r) ≡ true
refuted_form n m p r h shut e = let form = ended_form n m p r h shut e in and_from (are_steps n m r.steps) (is_whole r) form.0 form.1

-- WHAT GOES ON

refuting_goes_on : (n m : ℕ) (p : RoundsPart) → m ≤ max_clauses → IsRefuting n m p → length (rounds_lines p) < 2 ^ 63 → GoesOn (answer_drafts n m) (Refuting p)
refuting_goes_on n m p few h short =
    let count = few_steps n m p h.rounds in
    let g = rounds_shut n m p h.rounds (λ t. h.some) (omega (arith, few, short, count)) in
    let w = one_shut m p h.one in
    let q = shut_rounds m p in
    record {
      value = answer.Refuted w.0;
      form = refuted_form n m q w.0 g.0.form g.1 w.1;
      more = g.0.more;
      lines = ap (λ (ls : List (List Word)). state_line (codes "UNSATISFIABLE") ∷ ls) (ended_lines q w.0 g.1 w.1 ∙ g.0.lines);
    }

pub draft_goes_on : (n m : ℕ) (d : Draft) → n ≤ max_vars → m ≤ max_clauses → IsDraft n m d → length (draft_lines d) < 2 ^ 63 → GoesOn (answer_drafts n m) d
draft_goes_on n m Nothing small few h short = record {
  value = answer.Model (positives n);
  form = positives_total n;
  more = answer_lines (answer.Model (positives n));
  lines = refl;
}
draft_goes_on n m Satisfiable small few h short = record {
  value = answer.Model (positives n);
  form = positives_total n;
  more = value_line (positives n) ∷ [];
  lines = refl;
}
draft_goes_on n m (Model lits) small few h short = record { value = answer.Model lits; form = h; more = []; lines = refl }
draft_goes_on n m Unsatisfiable small few h short =
    let g = refuting_goes_on n m open_round few (open_form n m h) (omega arith) in
    record { value = g.value; form = g.form; more = rounds_lines open_round ++ g.more; lines = g.lines }
draft_goes_on n m (Refuting p) small few h short =
    let shorter : length (rounds_lines p) < 2 ^ 63 = omega (arith, short) in
    refuting_goes_on n m p few h shorter
draft_goes_on n m (Core c) small few h short =
    let g = (core_reads.drafting n m small few h.some).goes_on c h.core short in
    record { value = answer.Core g.value; form = g.form; more = g.more; lines = g.lines }

-- WHAT IS AN ANSWER

refuting_ends : (n m : ℕ) (p : RoundsPart) (a : Answer) → IsRefuting n m p → refuted_by p ≡ Some a → IsWhole (answer_drafts n m) (Refuting p) a
refuting_ends n m p a h e =
    let last = map_some answer.Refuted (last_round p.rounds) a e in
    by_open p.is_open refl last.item last.there last.is
  where
    by_open : (b : Bool) → p.is_open ≡ b → (r : Round) → last_round p.rounds ≡ Some r → a ≡ answer.Refuted r → IsWhole (answer_drafts n m) (Refuting p) a
    by_open true t r there is = absurd (let f : None ≡ Some r = sym (ap last_round (h.one.first t)) ∙ there in let g : ⊥ = cc in g)
    by_open false t r there is =
        let w = h.one.ended t in
        let same : w.0 ≡ r = let both : Some w.0 ≡ Some r = sym (ap last_round w.1) ∙ there in cc in
        let only : p.rounds ≡ r ∷ [] = w.1 ∙ ap (λ (q : Round). q ∷ []) same in
        subst (λ (x : Answer). IsWhole (answer_drafts n m) (Refuting p) x) (sym is) (record {
          form = refuted_form n m p r h.rounds t only;
          lines = ap (λ (ls : List (List Word)). state_line (codes "UNSATISFIABLE") ∷ ls) (ended_lines p r t only);
        })

pub draft_ends : (n m : ℕ) (d : Draft) (a : Answer) → n ≤ max_vars → m ≤ max_clauses → IsDraft n m d → finished d ≡ Some a → IsWhole (answer_drafts n m) d a
draft_ends n m Nothing a small few h e = absurd (let f : ⊥ = cc in f)
draft_ends n m Satisfiable a small few h e = absurd (let f : ⊥ = cc in f)
draft_ends n m (Model lits) a small few h e =
    let same : answer.Model lits ≡ a = cc in
    subst (λ (x : Answer). IsWhole (answer_drafts n m) (Model lits) x) same (record { form = h; lines = refl })
draft_ends n m Unsatisfiable a small few h e = absurd (let f : ⊥ = cc in f)
draft_ends n m (Refuting p) a small few h e = refuting_ends n m p a h e
draft_ends n m (Core c) a small few h e =
    let last = map_some answer.Core (core.finished c) a e in
    let whole = (core_reads.drafting n m small few h.some).ends c last.item h.core last.there in
    subst (λ (x : Answer). IsWhole (answer_drafts n m) (Core c) x) (sym last.is) (record { form = whole.form; lines = whole.lines })
