-- What a verdict tells of a formula and an answer.
use Rattle.std.proofs.Common.{◌≡◌, ◌∙◌, ℕ, true, ◌&&◌, ◌==◌, List, [], Option, None, length, refl, ap, subst}
use Rattle.std.specs.Prelude.{IsTrue}
use Rattle.std.proofs.lemmas.Bool.{eqb-true, le-leb}
use Rattle.lk_model.specs.Lists.{among, rises_within}
use Rattle.lk_model.specs.Formulas.Formula.{Cnf, is_formula}
use Rattle.lk_model.specs.Formulas.Autarky.{Within}
use Rattle.lk_model.specs.Formulas.Crossed.{no_variable}
use Rattle.lk_model.specs.Formulas.Lean.{all_of, are_positions, Kernel}
use Rattle.lk_model.specs.Formulas.Minimal.{IsUnsatisfiable}
use Rattle.lk_model.specs.Documents.CoreText.{is_core_in_form}
use Rattle.lk_model.specs.Texts.PlainText.{line}
use Rattle.lk_model.specs.Chains.Rounds.{used_positions}
use Rattle.lk_model.specs.declared.class.Class.TheVariants.{General}
use Rattle.lk_model.specs.declared.document.MusAnswer.{MusAnswer}
use Rattle.lk_model.specs.declared.verdict.Why.{Why}
use Rattle.lk_model.proofs.Booleans.{and_true}
use Rattle.lk_model.proofs.Rising.{bounded}
use Rattle.kernel_laws.proofs.EmptyLaws.{empty_law}
use Rattle.document_laws.proofs.Existence.ExistenceLaws.{existence_law}
use Rattle.lean_checker.specs.Verdicts.{verdict_words}
use Rattle.lean_checker.specs.declared.verdict.Verdict.{Verdict}
use Rattle.lk_model.specs.Documents.Answers.{is_answer}
use Rattle.answer_check.specs.AnswerChecks.{first_failure_of_answer}
use Rattle.answer_check.specs.AnswerLaw.{Shows}
use Rattle.lk_model.specs.declared.answer.Answer.{Answer}
use Rattle.lk_model.specs.declared.answer.Answer.TheVariants.{Model, Refuted, Core}
use Rattle.answer_check.proofs.AnswerLaws.{answer_law}
use Rattle.status_lines.specs.Verdicts.{verdict_status}
use Rattle.command_endings.specs.Commands.Verify.{Answers, AreInKernel, IsMinimalCore, IsProvedAnswer, verdict_by}
use Rattle.status_lines.specs.declared.status.Status.{Status}

-- the positions of a core in form
core_positions : (F : Cnf) (core : MusAnswer) → is_answer F.vars (length F.clauses) (Core core) ≡ true → are_positions F core.core ≡ true
unfolding is_core_in_form
core_positions F core form =
    let whole = and_true (core.vars == F.vars && core.clauses == length F.clauses) _ form in
    let clauses = and_true (core.vars == F.vars) _ whole.0 in
    let texts = and_true _ _ whole.1 in
    let literals = and_true _ _ texts.0 in
    let lines = and_true _ _ literals.0 in
    let round = and_true _ _ lines.0 in
    let steps = and_true _ _ round.0 in
    let rise = and_true _ _ steps.0 in
    subst (λ (m : ℕ). rises_within 0 m core.core ≡ true) (eqb-true core.clauses (length F.clauses) clauses.1) rise.1

-- where clauses of a formula have no model, it has none
none_of_all : (F : Cnf) (core : List ℕ) → are_positions F core ≡ true → IsUnsatisfiable F (among core) → IsUnsatisfiable F (all_of F)
none_of_all F core rise none φ model = none φ (λ p there.
    let b = bounded 0 (length F.clauses) core p rise there in
    model p (rw (le-leb 1 p b.0, le-leb p (length F.clauses) b.1) refl))

-- a formula has a general kernel, so positions that are in each one are in it
pub in_kernel : (F : Cnf) (positions : List ℕ) → is_formula F ≡ true → ((kept : List ℕ) → Kernel General F kept → Within (among positions) (among kept)) → AreInKernel F positions
in_kernel F positions formed h =
    let k = existence_law.general no_variable F formed in
    let kernel = (empty_law.kernel General F k.0).0 k.1 in
    record { kept = k.0; kernel = kernel; within = h k.0 kernel }

-- what a core shows
pub minimal_core : (F : Cnf) (core : MusAnswer) → is_formula F ≡ true → IsTrue (is_answer F.vars (length F.clauses) (Core core)) → Shows F (Core core) → IsMinimalCore F core.core
minimal_core F core formed form shown =
    let minimal = answer_law.minimal F core form shown in
    record {
      positions = core_positions F core form;
      no_model = none_of_all F core.core (core_positions F core form) minimal.unsatisfiable;
      minimal = minimal;
      kernel = in_kernel F core.core formed (λ kept kernel. answer_law.kernel F kept core form shown kernel);
    }

-- where no check fails, the answer is proved
is_proved : (F : Cnf) (a : Answer) → is_formula F ≡ true → IsTrue (is_answer F.vars (length F.clauses) a) → first_failure_of_answer F a ≡ None → IsProvedAnswer F a
is_proved F (Model literals) formed form none = (answer_law.shows F (Model literals) form).0 none
is_proved F (Refuted round) formed form none =
    let refutes = (answer_law.shows F (Refuted round) form).0 none in
    record { no_model = answer_law.no_model F round refutes; used = in_kernel F (used_positions F round) formed (λ kept kernel. answer_law.used F kept round refutes kernel) }
is_proved F (Core core) formed form none = minimal_core F core formed form ((answer_law.shows F (Core core) form).0 none)

pub verified_answers : (F : Cnf) (a : Answer) (why : Option Why) (v : Verdict) (status : Status) (written said : List ℕ) → is_formula F ≡ true → IsTrue (is_answer F.vars (length F.clauses) a) → why ≡ first_failure_of_answer F a → v ≡ verdict_by why
    → status ≡ verdict_status v → written ≡ line (verdict_words v) → said ≡ [] → Answers F a status written said
verified_answers F a why v status written said formed form first is at tells silent =
    let told : v ≡ verdict_by (first_failure_of_answer F a) = is ∙ ap verdict_by first in
    record {
      status_is = at ∙ ap verdict_status told;
      writes = tells ∙ ap (λ (w : Verdict). line (verdict_words w)) told;
      silent = silent;
      proved = λ none. is_proved F a formed form none;
    }
