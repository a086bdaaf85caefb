-- What a verdict tells of a formula and a document.
use Rattle.std.proofs.Common.{◌≡◌, ℕ, List, [], None, refl, ap, subst, sym, ◌∙◌}
use Rattle.std.specs.Prelude.{IsTrue}
use Rattle.lk_model.specs.Formulas.Formula.{Cnf}
use Rattle.lk_model.specs.Texts.PlainText.{line}
use Rattle.lk_model.specs.Checks.Checks.{first_failure}
use Rattle.lk_model.specs.Documents.Form.{is_in_form}
use Rattle.lk_model.specs.declared.document.Document.{Document}
use Rattle.lk_model.specs.declared.document.Document.TheVariants.{Done, Unfinished}
use Rattle.lean_checker.specs.Accepted.{IsReducedBy}
use Rattle.lean_checker.specs.Verdicts.{verdict_by, verdict_of, verdict_words}
use Rattle.lean_checker.specs.declared.verdict.Verdict.{Verdict}
use Rattle.lean_checker.specs.declared.verdict.Verdict.TheVariants as verdict
use Rattle.command_endings.specs.Commands.Check.{Answers, IsProvedDocument}
use Rattle.status_lines.specs.Verdicts.{verdict_status}
use Rattle.status_lines.specs.Statuses.{is_result}
use Rattle.status_lines.specs.declared.status.Status.{Status}

-- the status of a verdict is one of a result
pub verdict_result : (v : Verdict) (status : Status) → status ≡ verdict_status v → IsTrue (is_result status)
verdict_result v status e = subst (λ (s : Status). IsTrue (is_result s)) (sym e) (by v)
  where
    by : (v : Verdict) → IsTrue (is_result (verdict_status v))
    by verdict.Accepted = refl
    by (verdict.Unfinished learned) = refl
    by (verdict.No why) = refl

-- where no check fails, the document is proved
is_proved : (F : Cnf) (d : Document) → IsTrue (is_in_form d) → first_failure F d ≡ None → (verdict_of F d ≡ verdict.Accepted → IsReducedBy F d) → IsProvedDocument F d
is_proved F (Done d) form none reduced = (record { form = form; checks = none }, reduced (ap (verdict_by (Done d)) none))
is_proved F (Unfinished d) form none reduced = record { form = form; checks = none }

pub verdict_answers : (F : Cnf) (d : Document) (v : Verdict) (status : Status) (written said : List ℕ) → IsTrue (is_in_form d) → v ≡ verdict_of F d → (v ≡ verdict.Accepted → IsReducedBy F d)
    → status ≡ verdict_status v → written ≡ line (verdict_words v) → said ≡ [] → Answers F d status written said
verdict_answers F d v status written said form is reduced at tells silent = record {
  status_is = at ∙ ap verdict_status is;
  writes = tells ∙ ap (λ w. line (verdict_words w)) is;
  silent = silent;
  proved = λ none. is_proved F d form none (λ e. reduced (is ∙ e));
}
