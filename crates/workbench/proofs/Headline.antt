-- The claim of leank, from what the commands answer.
use Rattle.std.proofs.Common.{◌≡◌, ◌≢◌, ◌∙◌, ℕ, ◌≤◌, ◌^◌, Bool, false, List, [], ◌∷◌, ◌++◌, length, map, flat_map, Option, Some, None, refl, ap, sym, subst, append_assoc, ◌⊎◌, inl, inr, arith}
use Rattle.std.specs.Prelude.{◌↔◌, codes, IsTrue, ℤ, Ok}
use Rattle.std.proofs.lemmas.Bool.{cases_Bool}
use Rattle.lk_model.specs.Lists.{among}
use Rattle.lk_model.specs.Limits.{max_bytes}
use Rattle.lk_model.specs.Checks.Checks.{Accepts, first_failure, first_failure_to_extend, first_failure_to_extend_under, first_five}
use Rattle.lk_model.specs.Checks.CommonChecks.{other_formula, model_fails}
use Rattle.lk_model.specs.Formulas.Literal.{variable, literal_of}
use Rattle.lk_model.specs.Formulas.Assignment.{Assignment, assignment_of, extended_value, IsModel}
use Rattle.lk_model.specs.Formulas.Lean.{all_of}
use Rattle.lk_model.specs.Formulas.Crossed.{protected_by, protect_line_of}
use Rattle.lk_model.specs.Formulas.Formula.{Cnf, clauses_at, variables_to}
use Rattle.lk_model.specs.Reduction.{IsReduction, WritesReduction}
use Rattle.lk_model.specs.Formulas.Protected.{ReducesBy}
use Rattle.lk_model.specs.Texts.Dimacs.{Spells}
use Rattle.lk_model.specs.Texts.Lines.{Word}
use Rattle.lk_model.specs.Texts.ModelText.{model_of}
use Rattle.lk_model.specs.Texts.PlainText.{line, ended, number_words, literal_words, formula_lines}
use Rattle.lk_model.specs.Chains.Rounds.{used_positions}
use Rattle.lk_model.specs.Documents.Documents.{class_of}
use Rattle.lk_model.specs.Documents.Text.{class_word, class_lines, comment, first_lines, text_of}
use Rattle.lk_model.specs.declared.class.Class.{Class}
use Rattle.lk_model.specs.declared.class.Class.TheVariants.{Pure, Matching, Linear, General}
use Rattle.lk_model.specs.declared.document.Document.{Document as AnyDocument}
use Rattle.lk_model.specs.declared.document.Document.TheVariants.{Done as Finished, Unfinished}
use Rattle.lk_model.specs.declared.document.DoneDocument.{DoneDocument}
use Rattle.lk_model.specs.declared.document.MusAnswer.{MusAnswer}
use Rattle.lk_model.specs.declared.document.Round.{Round}
use Rattle.lk_model.specs.declared.verdict.Why.{Why}
use Rattle.lk_model.proofs.FaultConverse.{fault_law}
use Rattle.lk_model.proofs.Literals.{variable_of}
use Rattle.kernel_laws.proofs.Passed.{none_fails, has_passed, same_numbers, accepted_form}
use Rattle.document_laws.proofs.SameKept.{same_kept_law}
use Rattle.text_laws.proofs.SpelledFormulas.{spelled_form}
use Rattle.text_laws.proofs.Spelling.{spells_law}
use Rattle.lean_checker.specs.Verdicts.{verdict_by, verdict_of, verdict_words}
use Rattle.lean_checker.specs.declared.verdict.Verdict.{Verdict}
use Rattle.lean_checker.specs.declared.verdict.Verdict.TheVariants as verdict
use Rattle.cert_text.proofs.PrintedTexts.{text_in_row}
use Rattle.lk_model.specs.Documents.Answers.{is_answer}
use Rattle.answer_check.specs.AnswerChecks.{first_failure_of_answer}
use Rattle.lk_model.specs.declared.answer.Answer.{Answer}
use Rattle.lk_model.specs.declared.answer.Answer.TheVariants.{Model, Refuted, Core}
use Rattle.answer_check.proofs.AnswerLaws.{answer_law}
use Rattle.edit_text.specs.Edits.{states}
use Rattle.edit_text.specs.EditText.{IsEdits}
use Rattle.edit_text.specs.LiveClauses.{live_of}
use Rattle.edit_text.specs.declared.edit.Edit.{Edit}
use Rattle.command_words.specs.Lawful.{Request}
use Rattle.command_words.specs.Settings.{Options, options_by, are_options}
use Rattle.command_words.specs.Shapes.{inputs_of, keys_of}
use Rattle.command_words.specs.declared.command.Command.{Command}
use Rattle.command_words.specs.declared.command.Command.TheVariants.{ReducePure, ReduceMatching, ReduceLinear, ReduceGeneral, Check, Extend, Report, Solve, Verify, Deficiency, Edits, Mus}
use Rattle.command_words.specs.declared.shape.Grammar.TheVariants.{Document}
use Rattle.command_inputs.specs.Inputs.{nothing_known, IsTextOf}
use Rattle.command_endings.specs.Commands.Check as check
use Rattle.command_endings.specs.Commands.Edits.{WritesKernels}
use Rattle.command_endings.specs.Commands.Extend as extend
use Rattle.command_endings.specs.Commands.Extend.{extension, outcome_of, outcome_by, outcome_status, written_of}
use Rattle.command_endings.specs.Commands.ReduceGeneral as general
use Rattle.command_endings.specs.Commands.Mus as mus
use Rattle.command_endings.specs.Commands.Deficiency.{WritesDeficiency}
use Rattle.command_endings.specs.Commands.Report.{WritesReport}
use Rattle.command_endings.specs.Commands.Solve as solve
use Rattle.command_endings.specs.Commands.Solve.{IsEnoughToRefute, HasModel, WritesAnswer}
use Rattle.command_endings.specs.Commands.Verify as verify
use Rattle.command_endings.proofs.Extensions.{set_rises}
use Rattle.command_endings.proofs.SolveEndings.{not_enough}
use Rattle.command_endings.proofs.SolveEndings as solve_end
use Rattle.command_endings.proofs.MusEndings as mus_end
use Rattle.command_endings.proofs.GeneralEndings.{kernel_of, general_status}
use Rattle.command_endings.proofs.VerifiedAnswers.{in_kernel, minimal_core}
use Rattle.status_lines.specs.Statuses.{code, is_result}
use Rattle.status_lines.specs.declared.status.Status.{Status}
use Rattle.status_lines.specs.declared.status.Status.TheVariants.{Done, Words, Input as Refusal}
use Rattle.workbench.specs.Endings.{Allows, IsDecided}
use Rattle.workbench.specs.Headline.{Input, names_of, Ran, RanWell, Gives, BeginsWith, IsReduced, IsExtended, IsTrueOf, Answers, accepted, RunsWell, AreLawful, EndsAmong, with_clauses, AreOver, Headline}
use Rattle.workbench.specs.WrittenAnswers.{IsVerifiedFor, AsksVerify}
use Rattle.workbench.specs.WrittenChecks.{AskFor, AsksCheck}
use Rattle.workbench.proofs.Agreement.{written_accepted}
use Rattle.workbench.proofs.Protecting.{same_models, carried}
use Rattle.workbench.proofs.Runs.{words_for, asked, unasked, are_texts, numbered, one_status, HasAnswered, gives, well_decided, Comes, Refuses, Replies, comes, replied}
use Rattle.workbench.proofs.Tellings.{accepted_by, passes_by}
use Rattle.workbench.proofs.WrittenAnswers.{verified_for, verifies_as}
use Rattle.workbench.proofs.WrittenChecks.{checks_as}
use Rattle.workbench.proofs.WrittenCores.{core_spells}

-- DOCUMENTS

-- where its numbers are the formula's
begins_with : (F : Cnf) (class : Class) (d : DoneDocument) (text : List ℕ) → class_of d.body ≡ class → (other_formula F d.vars d.clauses).place ≡ None → text ≡ text_of (Finished d) → BeginsWith F class d.protect d.kept d.set text
begins_with F class d text of_class passes is =
    let numbers = same_numbers F d.vars d.clauses passes in
    let front : List (List Word) = comment (codes "keep") (ended (number_words d.kept)) ∷ comment (codes "set") (literal_words d.set) ∷ class_lines d.body in
    let head = append_assoc (first_lines (class_word (class_of d.body)) d.vars d.clauses d.protect) front (formula_lines d.texts) in
    let behind : List (List Word) = class_lines d.body ++ formula_lines d.texts in (
      behind,
      is ∙ text_in_row (Finished d) ∙ ap (λ (ls : List (List Word)). flat_map line ls) head
          ∙ (λ i. flat_map line (first_lines (class_word (of_class i)) (numbers.0 i) (numbers.1 i) d.protect ++ (comment (codes "keep") (ended (number_words d.kept)) ∷ comment (codes "set") (literal_words d.set) ∷ (class_lines d.body ++ formula_lines d.texts)))),
    )

-- an accepted document spells the clauses that it keeps
kept_spells : (F : Cnf) (d : DoneDocument) (text : List ℕ) → Accepts F d → text ≡ text_of (Finished d) → length text ≤ max_bytes → Spells text (clauses_at F d.kept)
kept_spells F d text accepts is short =
    let size : length (text_of (Finished d)) ≤ 2 ^ 30 = omega (arith, ap (λ (bs : List ℕ). length bs) is, short) in
    let spelled : Spells text d.texts = subst (λ (bs : List ℕ). Spells bs d.texts) (sym is) (spells_law (Finished d) accepts.form size) in
    subst (Spells text) (same_kept_law.lines (protected_by d.protect) F d accepts) spelled

reduced : (F : Cnf) (class : Class) (d : DoneDocument) (text : List ℕ) → class_of d.body ≡ class → Accepts F d → IsReduction F d → text ≡ text_of (Finished d) → IsReduced d.protect class F text
reduced F class d text of_class accepts reduction is = record {
  kept = d.kept;
  set = d.set;
  begins = begins_with F class d text of_class (has_passed (protected_by d.protect) F d accepts.checks).formula is;
  ascends = (accepted_form (protected_by d.protect) F d accepts).set;
  reduces = subst (λ (c : Class). ReducesBy (protected_by d.protect) c F d.kept (assignment_of d.set)) of_class reduction;
  spells = kept_spells F d text accepts is;
  document = d;
  text_is = is;
  same = (refl, refl);
  accepts = accepts;
}

writes_reduced : (F : Cnf) (class : Class) (listed : Option (List ℕ)) (pivots : ℕ) (written : List ℕ) → WritesReduction F class listed pivots written → IsReduced (protect_line_of F listed) class F written
writes_reduced F class listed pivots written w =
    let r = w.reduces in
    subst (λ (protect : Option (List ℕ)). IsReduced protect class F written) w.protects (reduced F class w.document written r.class_is r.accepted r.reduction w.written_is)

-- what `reduce` answered, of each class
pub has_reduced : (class : Class) (formula : Input) (options : List Word) (written : List ℕ) → Ran (codes "reduce" ∷ class_word class ∷ formula.name ∷ options) (formula ∷ []) 0 written
    → (F : Cnf) × Spells formula.text F × WritesReduction F class (options_by options).protect (options_by options).pivots written
has_reduced Pure formula options written run = let r = gives ReducePure (formula ∷ []) options 0 written refl refl run (λ e. omega (arith, e)) refl in (r.values.0, r.read.0, r.answers.writes)
has_reduced Matching formula options written run = let r = gives ReduceMatching (formula ∷ []) options 0 written refl refl run (λ e. omega (arith, e)) refl in (r.values.0, r.read.0, r.answers.writes)
has_reduced Linear formula options written run = let r = gives ReduceLinear (formula ∷ []) options 0 written refl refl run (λ e. omega (arith, e)) refl in (r.values.0, r.read.0, r.answers.writes)
has_reduced General formula options written run = let r = gives ReduceGeneral (formula ∷ []) options 0 written refl refl run (λ e. omega (arith, e)) refl in (r.values.0, r.read.0, (kernel_of r.answers).0.reduction)

reduce : (class : Class) (options : List Word) → Gives (codes "reduce" ∷ class_word class ∷ []) [] options 0 (λ F written. IsReduced (protect_line_of F (options_by options).protect) class F written)
reduce class options formula written run =
    let r = has_reduced class formula options written run in
    (r.0, r.1, writes_reduced r.0 class (options_by options).protect (options_by options).pivots written r.2)

-- of a document that no check refuses
checked : (F : Cnf) (d : AnyDocument) (text : List ℕ) (o : Option Why) → first_failure F d ≡ o → verdict_by d o ≡ verdict.Accepted → (first_failure F d ≡ None → check.IsProvedDocument F d) → IsTextOf Document nothing_known d text
    → (protect : Option (List ℕ)) × (class : Class) × IsReduced protect class F text
checked F (Finished d) text None none e proved read =
    let p = proved none in
    (d.protect, class_of d.body, reduced F (class_of d.body) d text refl p.0 p.1 read.text)
checked F (Unfinished d) text None none e proved read = absurd (let f : ⊥ = cc e in f)
checked F d text (Some why) none e proved read = absurd (let f : ⊥ = cc e in f)

check_0 : (document : Input) (options : List Word) → Gives (codes "check" ∷ []) (document ∷ []) options 0
    (λ F written. (protect : Option (List ℕ)) × (class : Class) × IsReduced protect class F document.text × (written ≡ accepted))
check_0 document options formula written run =
    let r = gives Check (formula ∷ document ∷ []) options 0 written refl refl run (λ e. omega (arith, e)) refl in
    let F = r.values.0 in
    let d = r.values.1.0 in
    let yes = accepted_by (verdict_of F d) r.answers.status_is in
    let c = checked F d document.text (first_failure F d) refl yes r.answers.proved r.read.1.0 in
    (F, r.read.0, (c.0, c.1, c.2, r.answers.writes ∙ ap (λ (v : Verdict). line (verdict_words v)) yes))

-- EXTEND

variables_back : (value : ℕ → Bool) (vs : List ℕ) → map variable (map (λ v. literal_of v (value v)) vs) ≡ vs
variables_back value [] = refl
variables_back value (v ∷ vs) = λ i. variable_of v (value v) i ∷ variables_back value vs i

-- the checks before a model is extended begin with that of the numbers
same_formula : (F : Cnf) (d : DoneDocument) (ψ : Assignment) → first_failure_to_extend F d ψ ≡ None → (other_formula F d.vars d.clauses).place ≡ None
unfolding first_failure_to_extend_under
same_formula F d ψ e = (none_fails (first_five (protected_by d.protect) F d ++ model_fails F d ψ ∷ []) e).0

extended_where : (F : Cnf) (d : DoneDocument) (document model written : List ℕ) (given : List ℤ) (o : Option Why) → IsTextOf Document nothing_known (Finished d) document → model_of model F.vars ≡ Ok given
    → (first_failure_to_extend F d (assignment_of given) ≡ None → extend.IsExtended F d (assignment_of given)) → first_failure_to_extend F d (assignment_of given) ≡ o
    → Done ≡ outcome_status (outcome_by F d (assignment_of given) o) → written ≡ written_of (outcome_by F d (assignment_of given) o) → IsExtended F document model written
extended_where F d document model written given (Some why) read gives proved is done text = absurd (let f : ⊥ = cc done in f)
extended_where F d document model written given None read gives proved is done text = record {
  class = class_of d.body;
  protect = d.protect;
  kept = d.kept;
  set = d.set;
  begins = begins_with F (class_of d.body) d document refl (same_formula F d (assignment_of given) is) read.text;
  ascends = set_rises F d (assignment_of given) read.form is;
  given = given;
  gives = gives;
  literals = extension F d (assignment_of given);
  are_model = record { total = variables_back (extended_value (assignment_of d.set) (assignment_of given)) (variables_to F.vars); model = (proved is).model };
  values = (proved is).values;
  protected = (proved is).protected;
  written_is = text;
}

extended_by : (F : Cnf) (d : AnyDocument) (document model written : List ℕ) (given : List ℤ) → IsTextOf Document nothing_known d document → model_of model F.vars ≡ Ok given → extend.IsProvedExtension F d (assignment_of given)
    → Done ≡ outcome_status (outcome_of F d (assignment_of given)) → written ≡ written_of (outcome_of F d (assignment_of given)) → IsExtended F document model written
extended_by F (Unfinished d) document model written given read gives proved done text = absurd (let f : ⊥ = cc done in f)
extended_by F (Finished d) document model written given read gives proved done text = extended_where F d document model written given (first_failure_to_extend F d (assignment_of given)) read gives proved refl done text

extend_0 : (document model : Input) → Gives (codes "extend" ∷ []) (document ∷ model ∷ []) [] 0 (λ F written. IsExtended F document.text model.text written)
extend_0 document model formula written run =
    let r = gives Extend (formula ∷ document ∷ model ∷ []) [] 0 written refl refl run (λ e. omega (arith, e)) refl in
    let F = r.values.0 in
    let d = r.values.1.0 in
    let given = r.values.1.1.0 in
    (F, r.read.0, extended_by F d document.text model.text written given r.read.1.0 r.read.1.1.0 r.answers.proved r.answers.status_is r.answers.writes)

-- ANSWERS

-- what an answer says where no check fails
is_true_of : (text : List ℕ) (F : Cnf) (a : Answer) → Spells text F → IsTrue (is_answer F.vars (length F.clauses) a) → first_failure_of_answer F a ≡ None → IsTrueOf F a
is_true_of text F (Model literals) spells form none = record { total = (answer_law.total F.vars (length F.clauses) literals).0 form; model = (answer_law.shows F (Model literals) form).0 none }
is_true_of text F (Refuted round) spells form none =
    let shown = (answer_law.shows F (Refuted round) form).0 none in
    record { steps = shown; no_model = answer_law.no_model F round shown; used = in_kernel F (used_positions F round) (spelled_form text F spells) (λ kept kernel. answer_law.used F kept round shown kernel) }
is_true_of text F (Core core) spells form none =
    let shown = (answer_law.shows F (Core core) form).0 none in
    let m = minimal_core F core (spelled_form text F spells) form shown in
    record { positions = m.positions; minimal = m.minimal; shown = shown; used = m.kernel }

is_answered : (text : List ℕ) (F : Cnf) (a : Answer) (written : List ℕ) → Spells text F → WritesAnswer F a written → Answers F a written
is_answered text F a written spells w = record { text_is = record { form = w.form; text = w.written_is }; is_true = is_true_of text F a spells w.form w.checks }

writes_model : (text : List ℕ) (F : Cnf) (written : List ℕ) → Spells text F → solve.WritesModel F written → (literals : List ℤ) × Answers F (Model literals) written
writes_model text F written spells w = (w.literals, is_answered text F (Model w.literals) written spells w.writes)

solve_10 : (options : List Word) → Gives (codes "solve" ∷ []) [] options 10 (λ F written. (literals : List ℤ) × Answers F (Model literals) written)
solve_10 options formula written run =
    let r = gives Solve (formula ∷ []) options 10 written refl refl run (λ e. omega (arith, e)) refl in
    (r.values.0, r.read.0, writes_model formula.text r.values.0 written r.read.0 (solve_end.model_of r.answers).0)

solve_20 : (options : List Word) → Gives (codes "solve" ∷ []) [] options 20 (λ F written. (round : Round) × Answers F (Refuted round) written)
solve_20 options formula written run =
    let r = gives Solve (formula ∷ []) options 20 written refl refl run (λ e. omega (arith, e)) refl in
    let w = (solve_end.refutation_of r.answers).0 in
    (r.values.0, r.read.0, (w.round, is_answered formula.text r.values.0 (Refuted w.round) written r.read.0 w.writes))

mus_0 : (options : List Word) → Gives (codes "mus" ∷ []) [] options 0
    (λ F written. (core : MusAnswer) × Answers F (Core core) written × (length written ≤ max_bytes → Spells written (clauses_at F core.core)))
mus_0 options formula written run =
    let r = gives Mus (formula ∷ []) options 0 written refl refl run (λ e. omega (arith, e)) refl in
    let w = (mus_end.core_of r.answers).0 in
    (r.values.0, r.read.0, (w.core, is_answered formula.text r.values.0 (Core w.core) written r.read.0 w.writes, core_spells formula.text (options_by options) written (record { formula = r.values.0; spells = r.read.0; writes = w })))

mus_10 : (options : List Word) → Gives (codes "mus" ∷ []) [] options 10 (λ F written. (literals : List ℤ) × Answers F (Model literals) written)
mus_10 options formula written run =
    let r = gives Mus (formula ∷ []) options 10 written refl refl run (λ e. omega (arith, e)) refl in
    (r.values.0, r.read.0, writes_model formula.text r.values.0 written r.read.0 (mus_end.model_of r.answers).0)

verify_0 : (answer : Input) → Gives (codes "verify" ∷ []) (answer ∷ []) [] 0 (λ F written. (a : Answer) × Answers F a answer.text × (written ≡ accepted))
verify_0 answer formula written run =
    let r = gives Verify (formula ∷ answer ∷ []) [] 0 written refl refl run (λ e. omega (arith, e)) refl in
    let F = r.values.0 in
    let a = r.values.1.0 in
    let read = r.read.1.0 in
    let none = passes_by (first_failure_of_answer F a) r.answers.status_is in
    (F, r.read.0, (a, record { text_is = read; is_true = is_true_of formula.text F a r.read.0 read.form none }, r.answers.writes ∙ ap (λ (o : Option Why). line (verdict_words (verify.verdict_by o))) none))

-- REPORT, DEFICIENCY AND EDITS

report : Gives (codes "report" ∷ []) [] [] 0 WritesReport
report formula written run =
    let r = gives Report (formula ∷ []) [] 0 written refl refl run (λ e. omega (arith, e)) refl in
    (r.values.0, r.read.0, r.answers.writes)

deficiency : Gives (codes "deficiency" ∷ []) [] [] 0 WritesDeficiency
deficiency formula written run =
    let r = gives Deficiency (formula ∷ []) [] 0 written refl refl run (λ e. omega (arith, e)) refl in
    (r.values.0, r.read.0, r.answers.writes)

edits : (changes : Input) → Gives (codes "edits" ∷ []) (changes ∷ []) [] 0 (λ F written. (made : List Edit) × IsEdits F made changes.text × WritesKernels (states (live_of F) made) written)
edits changes formula written run =
    let r = gives Edits (formula ∷ changes ∷ []) [] 0 written refl refl run (λ e. omega (arith, e)) refl in
    (r.values.0, r.read.0, (r.values.1.0, r.read.1.0, r.answers.writes))

-- STATUSES

-- a valid command line does not end with 1
never_one : (command : Command) (inputs : List Input) (options : List Word) (status : ℕ) → RunsWell command inputs options status → status ≡ 1 → AskFor (words_for command inputs options) command (names_of inputs) (options_by options) → ⊥
never_one command inputs options status r one request =
    let e = r.well.ran.is_run.ended (λ four. omega (arith, one, four)) in
    let told : e.status ≡ Words = one_status e.status status e.answer_is ∙ ap numbered one in
    let h = subst (λ (s : Status). Allows (words_for command inputs options) r.well.ran.shelf s e.written e.said) told e.allowed in
    let unlawful = h.1.unlawful in
    let f : ⊥ = cc (request, unlawful) in
    f

obeys : (command : Command) (inputs : List Input) (options : List Word) (status : ℕ) → RunsWell command inputs options status → (status ≡ 1) ↔ (are_options (keys_of command) options ≡ false)
obeys command inputs options status r = (
  λ one. elim (cases_Bool (are_options (keys_of command) options)) [
    | inl valid ↦ absurd (never_one command inputs options status r one (asked command inputs options r.no_number r.count valid))
    | inr invalid ↦ invalid
  ],
  λ invalid. well_decided (words_for command inputs options) inputs status r.written r.well Words
      (subst (λ (o : Option Request). IsDecided o r.well.ran.shelf.told Words) (sym (unasked command inputs options r.no_number r.count invalid)) refl),
)

-- a result does not have status 2
no_refusal : (s : Status) → IsTrue (is_result s) → 2 ≡ code s → ⊥
no_refusal s result two =
    let no : IsTrue (is_result Refusal) = subst (λ (s : Status). IsTrue (is_result s)) (one_status s 2 two) result in
    let f : ⊥ = cc no in
    f

refused_where : (command : Command) (inputs : List Input) (options : List Word) (status : ℕ) (written : List ℕ) → (AreLawful command inputs → ⊥) → Comes command inputs options status written → status ≡ 2
refused_where command inputs options status written unlawful (Refuses is told shown s bad) = is
refused_where command inputs options status written unlawful (Replies s is result said a) = absurd (unlawful (are_texts nothing_known (inputs_of command) inputs a.values a.read))

refuses : (command : Command) (inputs : List Input) (options : List Word) (status : ℕ) → RunsWell command inputs options status → status ≢ 1 → (status ≡ 2) ↔ (AreLawful command inputs → ⊥)
refuses command inputs options status r other = (
  λ two lawful. let a = replied command inputs options status r other lawful in no_refusal a.0 a.2 (sym two ∙ a.1),
  λ unlawful. refused_where command inputs options status r.written unlawful (comes command inputs options status r other),
)

-- it answers with status 0 alone
abbrev EndsDone : List Input → List Word → Command → Type 0
EndsDone inputs options c = (s : Status) (written said : List ℕ) → HasAnswered c inputs (options_by options) s written said → s ≡ Done

done_at : (inputs : List Input) (options : List Word) (c d : Command) → c ≡ d → EndsDone inputs options d → EndsDone inputs options c
done_at inputs options c d e h = subst (EndsDone inputs options) (sym e) h

always_done : (c : Command) (inputs : List Input) (options : List Word) → (c ≡ ReducePure) ⊎ (c ≡ ReduceMatching) ⊎ (c ≡ Report) ⊎ (c ≡ Deficiency) ⊎ (c ≡ Edits) → EndsDone inputs options c
always_done c inputs options (inl e) = done_at inputs options c ReducePure e (λ s written said a. a.answers.status_is)
always_done c inputs options (inr (inl e)) = done_at inputs options c ReduceMatching e (λ s written said a. a.answers.status_is)
always_done c inputs options (inr (inr (inl e))) = done_at inputs options c Report e (λ s written said a. a.answers.status_is)
always_done c inputs options (inr (inr (inr (inl e)))) = done_at inputs options c Deficiency e (λ s written said a. a.answers.status_is)
always_done c inputs options (inr (inr (inr (inr e)))) = done_at inputs options c Edits e (λ s written said a. a.answers.status_is)

answers_0 : (c : Command) (inputs : List Input) (options : List Word) (status : ℕ) → (c ≡ ReducePure) ⊎ (c ≡ ReduceMatching) ⊎ (c ≡ Report) ⊎ (c ≡ Deficiency) ⊎ (c ≡ Edits)
    → RunsWell c inputs options status → status ≢ 1 → AreLawful c inputs → status ≡ 0
answers_0 c inputs options status which r other lawful = let a = replied c inputs options status r other lawful in a.1 ∙ ap code (always_done c inputs options which a.0 r.written a.3 a.4)

-- with a budget that is enough none of these stops
solve_ends : {options : Options} {F : Cnf} {s : Status} {written said : List ℕ} → IsEnoughToRefute options.conflicts F → solve.Answers options F written said s → IsTrue (among (10 ∷ 20 ∷ []) (code s))
solve_ends enough (solve.satisfied w silent) = refl
solve_ends enough (solve.refuted w silent) = refl
solve_ends {options = options} {F = F} enough (solve.stopped w line) = absurd (not_enough options.conflicts F w.few w.filled enough)

mus_ends : {options : Options} {F : Cnf} {s : Status} {written said : List ℕ} → IsEnoughToRefute options.conflicts F → mus.Answers options F written said s → IsTrue (among (0 ∷ 10 ∷ []) (code s))
mus_ends enough (mus.extracted w silent) = refl
mus_ends enough (mus.satisfied w silent) = refl
mus_ends {options = options} {F = F} enough (mus.stopped w line) = absurd (not_enough options.conflicts F w.few w.filled enough)

keeps : EndsAmong ReduceGeneral general.IsEnoughToReduce (0 ∷ [])
keeps formula options status F r other spells enough =
    let a = replied ReduceGeneral (formula ∷ []) options status r other (F, spells, tt) in
    let same : a.4.values.0 ≡ F = fault_law.one formula.text a.4.values.0 F a.4.read.0 spells in
    let done = general_status (general.is_enough (subst (general.IsEnoughToReduce (options_by options).conflicts) (sym same) enough)) a.4.answers in
    subst (λ (n : ℕ). IsTrue (among (0 ∷ []) n)) (sym (a.1 ∙ ap code done)) refl

solves : EndsAmong Solve IsEnoughToRefute (10 ∷ 20 ∷ [])
solves formula options status F r other spells enough =
    let a = replied Solve (formula ∷ []) options status r other (F, spells, tt) in
    let same : a.4.values.0 ≡ F = fault_law.one formula.text a.4.values.0 F a.4.read.0 spells in
    subst (λ (n : ℕ). IsTrue (among (10 ∷ 20 ∷ []) n)) (sym a.1)
    (solve_ends (subst (IsEnoughToRefute (options_by options).conflicts) (sym same) enough) a.4.answers)

extracts : EndsAmong Mus IsEnoughToRefute (0 ∷ 10 ∷ [])
extracts formula options status F r other spells enough =
    let a = replied Mus (formula ∷ []) options status r other (F, spells, tt) in
    let same : a.4.values.0 ≡ F = fault_law.one formula.text a.4.values.0 F a.4.read.0 spells in
    subst (λ (n : ℕ). IsTrue (among (0 ∷ 10 ∷ []) n)) (sym a.1)
    (mus_ends (subst (IsEnoughToRefute (options_by options).conflicts) (sym same) enough) a.4.answers)

-- PROTECTED VARIABLES

protects : (protect : Option (List ℕ)) (class : Class) (F : Cnf) (text : List ℕ) (r : IsReduced protect class F text) (more : List (List ℤ)) → AreOver (protected_by protect) F.vars more
    → HasModel (with_clauses (clauses_at F r.kept) more) ↔ HasModel (with_clauses F more)
protects protect class F text r more over = same_models (protected_by protect) class F r.kept (assignment_of r.set) more r.reduces over

carries : (F : Cnf) (document model written : List ℕ) (e : IsExtended F document model written) (more : List (List ℤ)) → AreOver (protected_by e.protect) F.vars more
    → (let K = with_clauses (clauses_at F e.kept) more in IsModel K (all_of K) (assignment_of e.given)) → (let G = with_clauses F more in IsModel G (all_of G) (assignment_of e.literals))
carries F document model written e more over satisfied =
    subst (λ (φ : Assignment). IsModel (with_clauses F more) (all_of (with_clauses F more)) φ) (sym e.values)
    (carried (protected_by e.protect) F (clauses_at F e.kept) (assignment_of e.set) (assignment_of e.given) more e.protected (subst (IsModel F (all_of F)) e.values e.are_model.model) over satisfied)

-- AGREEMENT

accepts : (class : Class) (formula document : Input) (options : List Word) (status : ℕ) (said : List ℕ) → Ran (codes "reduce" ∷ class_word class ∷ formula.name ∷ options) (formula ∷ []) 0 document.text
    → RanWell (codes "check" ∷ formula.name ∷ document.name ∷ []) (formula ∷ document ∷ []) status said → status ≡ 0
accepts class formula document options status said run well =
    let words = codes "check" ∷ formula.name ∷ document.name ∷ [] in
    let inputs = formula ∷ document ∷ [] in
    let ran = well.ran in
    let r = has_reduced class formula options document.text run in
    let w = written_accepted formula.text document.text class (options_by options).protect (options_by options).pivots (record { formula = r.0; spells = r.1; writes = r.2 }) in
    let asks : AsksCheck words ran.shelf.told formula.text document.text = record { formula = formula.name; document = document.name; options = options_by []; asks = asked Check inputs [] refl refl refl; text_is = ran.shown.0; written_is = ran.shown.1.0 } in
    well_decided words inputs status said well Done (checks_as formula.text document.text w.F w.d verdict.Accepted w.spells w.read w.accepted words ran.shelf ran.out ran.say asks).decided

solve_verified : (formula : Input) (options : List Word) (found : ℕ) (text : List ℕ) → (found ≡ 0) ⊎ (found ≡ 10) ⊎ (found ≡ 20) → Ran (codes "solve" ∷ formula.name ∷ options) (formula ∷ []) found text → IsVerifiedFor formula.text text
solve_verified formula options found text (inl e) run =
    let r = gives Solve (formula ∷ []) options 0 text refl refl (subst (λ (n : ℕ). Ran (codes "solve" ∷ formula.name ∷ options) (formula ∷ []) n text) e run) (λ four. omega (arith, four)) refl in
    elim r.answers [ ]
solve_verified formula options found text (inr (inl e)) run =
    let r = gives Solve (formula ∷ []) options 10 text refl refl (subst (λ (n : ℕ). Ran (codes "solve" ∷ formula.name ∷ options) (formula ∷ []) n text) e run) (λ four. omega (arith, four)) refl in
    let w = (solve_end.model_of r.answers).0 in
    verified_for formula.text text r.values.0 (Model w.literals) r.read.0 w.writes
solve_verified formula options found text (inr (inr e)) run =
    let r = gives Solve (formula ∷ []) options 20 text refl refl (subst (λ (n : ℕ). Ran (codes "solve" ∷ formula.name ∷ options) (formula ∷ []) n text) e run) (λ four. omega (arith, four)) refl in
    let w = (solve_end.refutation_of r.answers).0 in
    verified_for formula.text text r.values.0 (Refuted w.round) r.read.0 w.writes

mus_verified : (formula : Input) (options : List Word) (found : ℕ) (text : List ℕ) → (found ≡ 0) ⊎ (found ≡ 10) ⊎ (found ≡ 20) → Ran (codes "mus" ∷ formula.name ∷ options) (formula ∷ []) found text → IsVerifiedFor formula.text text
mus_verified formula options found text (inl e) run =
    let r = gives Mus (formula ∷ []) options 0 text refl refl (subst (λ (n : ℕ). Ran (codes "mus" ∷ formula.name ∷ options) (formula ∷ []) n text) e run) (λ four. omega (arith, four)) refl in
    let w = (mus_end.core_of r.answers).0 in
    verified_for formula.text text r.values.0 (Core w.core) r.read.0 w.writes
mus_verified formula options found text (inr (inl e)) run =
    let r = gives Mus (formula ∷ []) options 10 text refl refl (subst (λ (n : ℕ). Ran (codes "mus" ∷ formula.name ∷ options) (formula ∷ []) n text) e run) (λ four. omega (arith, four)) refl in
    let w = (mus_end.model_of r.answers).0 in
    verified_for formula.text text r.values.0 (Model w.literals) r.read.0 w.writes
mus_verified formula options found text (inr (inr e)) run =
    let r = gives Mus (formula ∷ []) options 20 text refl refl (subst (λ (n : ℕ). Ran (codes "mus" ∷ formula.name ∷ options) (formula ∷ []) n text) e run) (λ four. omega (arith, four)) refl in
    elim r.answers [ ]

verifies : (solver : Word) (formula answer : Input) (options : List Word) (found status : ℕ) (said : List ℕ) → (solver ≡ codes "solve") ⊎ (solver ≡ codes "mus") → (found ≡ 0) ⊎ (found ≡ 10) ⊎ (found ≡ 20)
    → Ran (solver ∷ formula.name ∷ options) (formula ∷ []) found answer.text → RanWell (codes "verify" ∷ formula.name ∷ answer.name ∷ []) (formula ∷ answer ∷ []) status said → status ≡ 0
verifies solver formula answer options found status said is with_this run well =
    let words = codes "verify" ∷ formula.name ∷ answer.name ∷ [] in
    let inputs = formula ∷ answer ∷ [] in
    let ran = well.ran in
    let asks : AsksVerify words ran.shelf.told formula.text answer.text = record { formula = formula.name; answer = answer.name; options = options_by []; asks = asked Verify inputs [] refl refl refl; text_is = ran.shown.0; written_is = ran.shown.1.0 } in
    well_decided words inputs status said well Done (verifies_as formula.text answer.text (by is) words ran.shelf ran.out ran.say asks).decided
  where
    by : (solver ≡ codes "solve") ⊎ (solver ≡ codes "mus") → IsVerifiedFor formula.text answer.text
    by (inl e) = solve_verified formula options found answer.text with_this (subst (λ (word : Word). Ran (word ∷ formula.name ∷ options) (formula ∷ []) found answer.text) e run)
    by (inr e) = mus_verified formula options found answer.text with_this (subst (λ (word : Word). Ran (word ∷ formula.name ∷ options) (formula ∷ []) found answer.text) e run)

pub headline : Headline
headline = record {
  reduce = reduce;
  check = check_0;
  extend = extend_0;
  report = report;
  solve_10 = solve_10;
  solve_20 = solve_20;
  mus_0 = mus_0;
  mus_10 = mus_10;
  verify = verify_0;
  deficiency = deficiency;
  edits = edits;
  protects = protects;
  carries = carries;
  accepts = accepts;
  verifies = verifies;
  obeys = obeys;
  refuses = refuses;
  answers = answers_0;
  keeps = keeps;
  solves = solves;
  extracts = extracts;
}
