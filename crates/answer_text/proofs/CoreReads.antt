-- Cores are read by drafts.
use Rattle.std.proofs.Common.{ℕ, ◌<◌, ◌≤◌, ◌∙◌, refl, arith}
use Rattle.lk_model.specs.Limits.{max_vars, max_clauses}
use Rattle.line_text.proofs.DraftReads.{IsDrafting}
use Rattle.answer_text.specs.CoreDrafts.{core_drafts}
use Rattle.answer_text.proofs.CoreRuns.{clean_core, core_runs}
use Rattle.answer_text.proofs.CoreEnds.{draft_goes_on, draft_ends}
use Rattle.answer_text.proofs.CoreDraftForms.{IsDraft}
use Rattle.answer_text.proofs.CoreSteps.{draft_step}

pub drafting : (n m : ℕ) → n ≤ max_vars → m ≤ max_clauses → 0 < m → IsDrafting (core_drafts n m) (IsDraft n m)
drafting n m small few some = record {
  begins = record { vars = refl; clauses = refl; form = refl };
  nothing = refl;
  step = λ d e words h f.
      let s = draft_step d e words (omega (arith, small, h.vars)) h.form f in
      record { form = record { vars = s.vars ∙ h.vars; clauses = s.clauses ∙ h.clauses; form = s.form }; lines = s.lines };
  goes_on = λ d h short. draft_goes_on n m d small few some h short;
  clean = clean_core;
  runs = λ a h. core_runs n m a h;
  ends = λ d a h f. draft_ends n m d a small few h f;
}
