-- What `verify` and `check` come to on what `solve` wrote.
use Rattle.std.proofs.Common.{◌≡◌, ◌∙◌, ℕ, List, Option, None, length, sym, ap, subst, ◌⊎◌, inl, inr, refl}
use Rattle.std.specs.Prelude.{IfSome, IsSome}
use Rattle.lk_model.specs.Formulas.Formula.{Cnf}
use Rattle.lk_model.specs.Texts.Dimacs.{Spells}
use Rattle.lk_model.specs.Texts.Lines.{Word}
use Rattle.lk_model.specs.Texts.PlainText.{line}
use Rattle.lk_model.specs.declared.verdict.Why.{Why}
use Rattle.lk_model.proofs.FaultConverse.{fault_law}
use Rattle.lean_checker.specs.Verdicts.{verdict_words}
use Rattle.lean_checker.specs.declared.verdict.Verdict.TheVariants as verdict
use Rattle.lk_model.specs.Documents.Answers.{IsAnswerText}
use Rattle.answer_check.specs.AnswerChecks.{first_failure_of_answer}
use Rattle.lk_model.specs.declared.answer.Answer.{Answer}
use Rattle.answer_check.proofs.AnswerReads.{answer_text_law}
use Rattle.command_words.specs.Lawful.{Request}
use Rattle.command_words.specs.Settings.{Options}
use Rattle.command_words.specs.declared.command.Command.TheVariants.{Solve}
use Rattle.status_lines.specs.Verdicts.{verdict_status}
use Rattle.command_endings.specs.Commands.Solve.{WritesAnswer}
use Rattle.command_endings.specs.Commands.Verify.{verdict_by}
use Rattle.workbench.specs.Endings.{Shelved, Sunk, Takes, IsDecided}
use Rattle.workbench.specs.WrittenAnswers.{IsSatisfiedText, IsRefutedText, IsUndecidedText, IsVerifiedFor, SolvedIsVerified, AsksVerify, WrittenVerifiesAsAccepted, UnsolvedChecksAsUnfinished}
use Rattle.workbench.specs.WrittenChecks.{HasWrittenBy, ChecksAs}
use Rattle.workbench.proofs.Agreement.{unfinished_for}
use Rattle.workbench.proofs.Runs.{ends_with, wrote}
use Rattle.command_endings.proofs.SolveEndings.{model_of, refutation_of, stop_of}
use Rattle.workbench.proofs.WrittenChecks.{decided_by, checks_as}

-- OF THE TEXTS

pub verified_for : (text written : List ℕ) (F : Cnf) (a : Answer) → Spells text F → WritesAnswer F a written → IsVerifiedFor text written
verified_for text written F a spells w = record { F = F; a = a; spells = spells; read = record { form = w.form; text = w.written_is }; passes = w.checks }

pub solved_verified : SolvedIsVerified
solved_verified = record {
  model = λ text written h. verified_for text written h.formula _ h.spells h.writes.writes;
  refutation = λ text options written h. verified_for text written h.formula _ h.spells h.writes.writes;
  unfinished = λ text options written h. unfinished_for text written h.formula None options.conflicts h.spells h.writes.unfinished;
}

-- WHAT STANDS ON `out`

has_solved : (options : Options) (text written : List ℕ) → HasWrittenBy Solve options text 10 written → IsSatisfiedText text written
has_solved options text written h = let a = wrote Solve options text 10 written h refl in record { formula = a.values.0; spells = a.read.0; writes = (model_of a.answers).0 }

has_refuted : (options : Options) (text written : List ℕ) → HasWrittenBy Solve options text 20 written → IsRefutedText text options written
has_refuted options text written h = let a = wrote Solve options text 20 written h refl in record { formula = a.values.0; spells = a.read.0; writes = (refutation_of a.answers).0 }

has_stopped : (options : Options) (text written : List ℕ) → HasWrittenBy Solve options text 5 written → IsUndecidedText text options written
has_stopped options text written h = let a = wrote Solve options text 5 written h refl in record { formula = a.values.0; spells = a.read.0; writes = (stop_of a.answers).0 }

written_verified : (options : Options) (text : List ℕ) (answer : ℕ) (written : List ℕ) → (answer ≡ 10) ⊎ (answer ≡ 20) → HasWrittenBy Solve options text answer written → IsVerifiedFor text written
written_verified options text answer written (inl e) h = solved_verified.model text written (has_solved options text written (subst (λ (n : ℕ). HasWrittenBy Solve options text n written) e h))
written_verified options text answer written (inr e) h = solved_verified.refutation text options written (has_refuted options text written (subst (λ (n : ℕ). HasWrittenBy Solve options text n written) e h))

-- WHAT IT COMES TO

-- where the answer that is verified is known
pub verifies_as : (text written : List ℕ) → IsVerifiedFor text written → (words : List Word) (shelf : Shelved) (out say : Sunk) → AsksVerify words shelf.told text written → ChecksAs words shelf out say verdict.Accepted
verifies_as text written v words shelf out say a = record {
  decided = subst (λ (o : Option Request). IsDecided o shelf.told (verdict_status verdict.Accepted)) (sym a.asks)
      (decided_by _ shelf.told verdict.Accepted (record {
        told_all = (subst (λ (o : Option (List ℕ)). IsSome o) (sym a.text_is) refl, (subst (λ (o : Option (List ℕ)). IsSome o) (sym a.written_is) refl, tt));
        values = (v.F, (v.a, tt));
        read = (
          subst (λ (o : Option (List ℕ)). IfSome o (λ bytes. Spells bytes v.F)) (sym a.text_is) v.spells,
          (subst (λ (o : Option (List ℕ)). IfSome o (λ bytes. IsAnswerText v.F.vars (length v.F.clauses) bytes v.a)) (sym a.written_is) v.read, tt),
        );
        decides = sym (ap (λ (o : Option Why). verdict_status (verdict_by o)) v.passes);
      }));
  writes = λ e.
      let r = ends_with words shelf out say _ 0 e a.asks refl in
      let spells = subst (λ (o : Option (List ℕ)). IfSome o (λ bytes. Spells bytes r.values.0)) a.text_is r.read.0 in
      let formula : r.values.0 ≡ v.F = fault_law.one text r.values.0 v.F spells v.spells in
      let read = subst (λ (F : Cnf). IsAnswerText F.vars (length F.clauses) written r.values.1.0) formula
      (subst (λ (o : Option (List ℕ)). IfSome o (λ bytes. IsAnswerText r.values.0.vars (length r.values.0.clauses) bytes r.values.1.0)) a.written_is r.read.1.0) in
      let answer : r.values.1.0 ≡ v.a = answer_text_law.once v.F.vars (length v.F.clauses) written r.values.1.0 v.a v.spells.vars_limit v.spells.clauses_limit read v.read in
      let none : first_failure_of_answer r.values.0 r.values.1.0 ≡ None = (λ i. first_failure_of_answer (formula i) (answer i)) ∙ v.passes in
      (subst (Takes out) (r.answers.writes ∙ ap (λ (o : Option Why). line (verdict_words (verdict_by o))) none) e.taken.0, e.taken.1.same r.answers.silent);
}

pub written_verifies : WrittenVerifiesAsAccepted
written_verifies options text answer written is h words shelf out say a = verifies_as text written (written_verified options text answer written is h) words shelf out say a

pub unsolved_checks : UnsolvedChecksAsUnfinished
unsolved_checks options text written h words shelf out say a =
    let w = solved_verified.unfinished text options written (has_stopped options text written h) in
    checks_as text written w.F w.d (verdict.Unfinished options.conflicts) w.spells w.read w.unfinished words shelf out say a
