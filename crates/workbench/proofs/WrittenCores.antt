-- What `verify` and `check` come to on what `mus` wrote.
use Rattle.std.proofs.Common.{◌≡◌, ℕ, ◌≤◌, ◌^◌, true, List, length, None, refl, sym, ap, subst, ◌⊎◌, inl, inr, arith}
use Rattle.lk_model.specs.Limits.{max_bytes}
use Rattle.lk_model.specs.Formulas.Formula.{clauses_at}
use Rattle.lk_model.specs.Texts.Dimacs.{Spells}
use Rattle.lk_model.specs.Documents.CoreText.{is_core_in_form, core_text}
use Rattle.lk_model.specs.Documents.Text.{text_of}
use Rattle.lk_model.specs.declared.document.Document.TheVariants as document
use Rattle.lk_model.proofs.Booleans.{and_true}
use Rattle.text_laws.proofs.Spelling.{spells_law}
use Rattle.text_laws.proofs.CoreSpelling.{core_spells_law}
use Rattle.lean_checker.specs.declared.verdict.Verdict.TheVariants as verdict
use Rattle.lk_model.specs.declared.answer.Answer.TheVariants.{Core}
use Rattle.answer_check.proofs.AnswerLaws.{answer_law}
use Rattle.command_words.specs.Settings.{Options}
use Rattle.command_words.specs.declared.command.Command.TheVariants.{Mus}
use Rattle.workbench.specs.WrittenAnswers.{IsSatisfiedText, IsVerifiedFor}
use Rattle.workbench.specs.WrittenChecks.{HasWrittenBy}
use Rattle.workbench.specs.WrittenCores.{IsExtracted, IsUnextracted, ExtractedIsVerified, ExtractedVerifiesAsAccepted, UnextractedChecksAsUnfinished}
use Rattle.workbench.proofs.Agreement.{unfinished_for}
use Rattle.workbench.proofs.Runs.{wrote}
use Rattle.command_endings.proofs.MusEndings.{core_of, model_of, stop_of}
use Rattle.workbench.proofs.WrittenAnswers.{solved_verified, verified_for, verifies_as}
use Rattle.workbench.proofs.WrittenChecks.{checks_as}

-- OF THE TEXTS

-- the clauses of a core are the formula's at its positions, and the text spells them
pub core_spells : (text : List ℕ) (options : Options) (written : List ℕ) → (e : IsExtracted text options written) → length written ≤ max_bytes → Spells written (clauses_at e.formula e.writes.core.core)
core_spells text options written e short =
    let w = e.writes.writes in
    let core = e.writes.core in
    let form : is_core_in_form core ≡ true = (and_true _ (is_core_in_form core) w.form).1 in
    let texts = ((answer_law.shows e.formula (Core core) w.form).0 w.checks).texts in
    let size : length (core_text core) ≤ 2 ^ 30 = omega (arith, ap (λ (bs : List ℕ). length bs) w.written_is, short) in
    let spelled : Spells written core.texts = subst (λ (bs : List ℕ). Spells bs core.texts) (sym w.written_is) (core_spells_law core form size) in
    subst (Spells written) texts spelled

-- an unfinished document spells the clauses that it is for
open_spells : (text : List ℕ) (options : Options) (written : List ℕ) → (u : IsUnextracted text options written) → length written ≤ max_bytes → Spells written (clauses_at u.formula u.writes.part)
open_spells text options written u short =
    let o = u.writes.unfinished in
    let size : length (text_of (document.Unfinished o.document)) ≤ 2 ^ 30 = omega (arith, ap (λ (bs : List ℕ). length bs) o.written_is, short) in
    let spelled : Spells written o.document.texts = subst (λ (bs : List ℕ). Spells bs o.document.texts) (sym o.written_is) (spells_law (document.Unfinished o.document) o.sound.form size) in
    subst (Spells written) u.writes.texts spelled

pub extracted_verified : ExtractedIsVerified
extracted_verified = record {
  core = λ text options written e. verified_for text written e.formula _ e.spells e.writes.writes;
  spells = core_spells;
  unfinished = λ text options written u short.
      unfinished_for written written (clauses_at u.formula u.writes.part) None options.conflicts (open_spells text options written u short) u.writes.unfinished;
}

-- WHAT STANDS ON `out`

has_extracted : (options : Options) (text written : List ℕ) → HasWrittenBy Mus options text 0 written → IsExtracted text options written
has_extracted options text written h = let a = wrote Mus options text 0 written h refl in record { formula = a.values.0; spells = a.read.0; writes = (core_of a.answers).0 }

has_solved : (options : Options) (text written : List ℕ) → HasWrittenBy Mus options text 10 written → IsSatisfiedText text written
has_solved options text written h = let a = wrote Mus options text 10 written h refl in record { formula = a.values.0; spells = a.read.0; writes = (model_of a.answers).0 }

has_stopped : (options : Options) (text written : List ℕ) → HasWrittenBy Mus options text 5 written → IsUnextracted text options written
has_stopped options text written h = let a = wrote Mus options text 5 written h refl in record { formula = a.values.0; spells = a.read.0; writes = (stop_of a.answers).0 }

written_verified : (options : Options) (text : List ℕ) (answer : ℕ) (written : List ℕ) → (answer ≡ 0) ⊎ (answer ≡ 10) → HasWrittenBy Mus options text answer written → IsVerifiedFor text written
written_verified options text answer written (inl e) h = extracted_verified.core text options written (has_extracted options text written (subst (λ (n : ℕ). HasWrittenBy Mus options text n written) e h))
written_verified options text answer written (inr e) h = solved_verified.model text written (has_solved options text written (subst (λ (n : ℕ). HasWrittenBy Mus options text n written) e h))

-- WHAT IT COMES TO

pub extracted_verifies : ExtractedVerifiesAsAccepted
extracted_verifies options text answer written is h words shelf out say a = verifies_as text written (written_verified options text answer written is h) words shelf out say a

pub unextracted_checks : UnextractedChecksAsUnfinished
unextracted_checks options text written h short words shelf out say a =
    let w = extracted_verified.unfinished text options written (has_stopped options text written h) short in
    checks_as written written w.F w.d (verdict.Unfinished options.conflicts) w.spells w.read w.unfinished words shelf out say a
