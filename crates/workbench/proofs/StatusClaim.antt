-- The claim of leank on statuses, from what the commands answer.
use Rattle.std.proofs.Common.{◌≡◌, ◌≢◌, ◌∙◌, ℕ, ℤ, ◌*◌, ◌^◌, ◌<◌, ◌-◌, Bool, true, false, cond, List, [], ◌∷◌, length, take, Option, Some, None, Ok, refl, ap, sym, subst, ◌⊎◌, inl, inr, arith}
use Rattle.std.specs.Prelude.{IsTrue, ⊤, codes, nat_le}
use Rattle.std.proofs.lemmas.Bool.{cases_Bool, cases_eq, and_from, le-leb}
use Rattle.lk_model.specs.Lists.{among}
use Rattle.lk_model.specs.Formulas.Formula.{Cnf}
use Rattle.lk_model.specs.Formulas.Assignment.{assignment_of, IsModel}
use Rattle.lk_model.specs.Formulas.Lean.{Kernel}
use Rattle.lk_model.specs.declared.class.Class.{Class}
use Rattle.lk_model.specs.declared.class.Class.TheVariants.{Matching}
use Rattle.lk_model.specs.Texts.Dimacs.{Spells}
use Rattle.lk_model.specs.Texts.Lines.{Word}
use Rattle.lk_model.specs.Texts.NumberWords.{natural}
use Rattle.lk_model.specs.Texts.ModelText.{model_of}
use Rattle.lk_model.specs.Texts.PlainText.{line}
use Rattle.lk_model.specs.Documents.Answers.{IsAnswerText}
use Rattle.lk_model.specs.Documents.Reading.{IsTextOfDocument}
use Rattle.lk_model.specs.Linear.LinearRun.{LinearEnd, RunDone, RunWide, RunBudget, linear_run_under, is_too_large_under}
use Rattle.lk_model.specs.declared.answer.Answer.{Answer}
use Rattle.lk_model.specs.declared.document.Document.{Document}
use Rattle.lk_model.specs.declared.document.Document.TheVariants.{Done as Finished}
use Rattle.lk_model.specs.declared.verdict.Why.{Why}
use Rattle.lk_outside.specs.Causes.{Rose}
use Rattle.lean_checker.specs.Verdicts.{verdict_of, verdict_words}
use Rattle.lean_checker.specs.declared.verdict.Verdict.{Verdict}
use Rattle.lean_checker.specs.declared.verdict.Verdict.TheVariants as verdict
use Rattle.cert_text.proofs.ReadLaws.{of_one_document}
use Rattle.answer_check.specs.AnswerChecks.{first_failure_of_answer}
use Rattle.demo_formula.specs.Demo.{demo_formula}
use Rattle.command_words.specs.Lawful.{Request, request_of, IsRefusedAt}
use Rattle.command_words.specs.Settings.{Options, options_by, are_options, number_within, numbers_from}
use Rattle.command_words.specs.Shapes.{number_of, inputs_of, keys_of}
use Rattle.command_words.proofs.CommandTable.{is_of}
use Rattle.command_words.specs.declared.command.Command.{Command}
use Rattle.command_words.specs.declared.command.Command.TheVariants as command
use Rattle.command_words.specs.declared.shape.Grammar.{Grammar}
use Rattle.command_inputs.specs.Inputs.{Told, Known, nothing_known, Values, IsTextOf, known_behind, IsRefusal, IsFirstBad}
use Rattle.command_stops.specs.declared.stop.Stop.{Stop}
use Rattle.command_stops.specs.declared.stop.Stop.TheVariants as stop
use Rattle.command_inputs.proofs.InputLaws.{nothing_small, one_reading}
use Rattle.command_endings.specs.Commands as commands
use Rattle.command_endings.specs.Commands.Demo as demo
use Rattle.command_endings.specs.Commands.Extend as extend
use Rattle.command_endings.specs.Commands.Extend.{Outcome, Open, Fails, Extends, outcome_of, outcome_by, outcome_status}
use Rattle.command_endings.specs.Commands.Mus as mus
use Rattle.command_endings.specs.Commands.ReduceGeneral as general
use Rattle.command_endings.specs.Commands.ReduceLinear as linear
use Rattle.command_endings.specs.Commands.Solve as solve
use Rattle.command_endings.specs.Commands.Verify as verify
use Rattle.command_endings.proofs.CommandTable.{one_status as decided_status, IsQuiet, result_quiet}
use Rattle.command_endings.proofs.DemoEndings as demo_end
use Rattle.command_endings.proofs.Extensions.{accepted_extends}
use Rattle.command_endings.proofs.GeneralEndings as general_end
use Rattle.command_endings.proofs.MusEndings as mus_end
use Rattle.command_endings.proofs.SolveEndings as solve_end
use Rattle.status_lines.specs.RunLines.{conflicts_line}
use Rattle.status_lines.specs.StopLines.{line_of}
use Rattle.status_lines.specs.Statuses.{code, is_result}
use Rattle.status_lines.specs.Verdicts.{verdict_status}
use Rattle.status_lines.specs.declared.status.Status.{Status}
use Rattle.status_lines.specs.declared.status.Status.TheVariants.{Done, Words, Input as Refusal, ReadFault, WriteFault, Budget, TooWide, TooLarge, Memory, Satisfiable, Unsatisfiable}
use Rattle.workbench.specs.Endings.{Shelved, Sunk, Ends, IsCutIn, IsCutOff, Allows, IsResult, DeservesStop, HasReadFault}
use Rattle.workbench.specs.Headline.{IsRun, Input, names_of, AreShown, Ran, Gives, IsReduced, RunsWell, AreLawful}
use Rattle.workbench.specs.StatusClaim.{Said, Tells, results, results_of, EndsWith, ComesTo, AreRefused, IsCutShort, StatusClaim}
use Rattle.workbench.proofs.EndingLaws.{rose_in}
use Rattle.workbench.proofs.Headline.{has_reduced}
use Rattle.workbench.proofs.Runs.{words_for, asked, unasked, AreOf, shown_if, are_read, are_told, are_texts, numbered, one_status, result_at, all_written, HasAnswered, valid_with, gives, replied}

-- ENDINGS

-- no status has another number
listed : (s : Status) → IsTrue (among (1 ∷ 2 ∷ 3 ∷ 4 ∷ 9 ∷ results) (code s))
listed Done = refl
listed s = refl

every_status : (words : List Word) (shelf : Shelved) (out say : Sunk) (status : ℕ) → IsRun words shelf out say status → IsTrue (among (1 ∷ 2 ∷ 3 ∷ 4 ∷ 9 ∷ results) status)
every_status words shelf out say status run = elim (cases_eq status 4) [
  | inl four ↦ subst (λ (n : ℕ). IsTrue (among (1 ∷ 2 ∷ 3 ∷ 4 ∷ 9 ∷ results) n)) (sym four) refl
  | inr other ↦ let e = run.ended other in subst (λ (n : ℕ). IsTrue (among (1 ∷ 2 ∷ 3 ∷ 4 ∷ 9 ∷ results) n)) (sym e.answer_is) (listed e.status)
]

-- which numbers are those of results
not_four : (n : ℕ) → IsTrue (among results n) → n ≢ 4
not_four n h four = let no : false ≡ true = subst (λ (k : ℕ). among results k ≡ true) four h in let f : ⊥ = cc no in f

of_result : (s : Status) → IsTrue (among results (code s)) → IsTrue (is_result s)
of_result Words h = absurd (let f : ⊥ = cc h in f)
of_result Refusal h = absurd (let f : ⊥ = cc h in f)
of_result ReadFault h = absurd (let f : ⊥ = cc h in f)
of_result WriteFault h = absurd (let f : ⊥ = cc h in f)
of_result Memory h = absurd (let f : ⊥ = cc h in f)
of_result s h = refl

is_numbered : {words : List Word} {inputs : List Input} {n : ℕ} {written : List ℕ} (run : Ran words inputs n written) → IsTrue (among results n) → IsTrue (is_result (numbered n)) × (n ≡ code (numbered n))
is_numbered {n = n} run h =
    let e = run.is_run.ended (not_four n h) in
    let same : e.status ≡ numbered n = one_status e.status n e.answer_is in (
      subst (λ (s : Status). IsTrue (is_result s)) same (of_result e.status (subst (λ (k : ℕ). IsTrue (among results k)) e.answer_is h)),
      e.answer_is ∙ ap code same,
    )

-- which results a command has
verdict_listed : (v : Verdict) → IsTrue (among (0 ∷ 5 ∷ 8 ∷ []) (code (verdict_status v)))
verdict_listed verdict.Accepted = refl
verdict_listed (verdict.Unfinished learned) = refl
verdict_listed (verdict.No why) = refl

answer_listed : (o : Option Why) → IsTrue (among (0 ∷ 8 ∷ []) (code (verdict_status (verify.verdict_by o))))
answer_listed None = refl
answer_listed (Some why) = refl

outcome_listed : (o : Outcome) → IsTrue (among (0 ∷ 5 ∷ 8 ∷ []) (code (outcome_status o)))
outcome_listed Open = refl
outcome_listed (Fails why) = refl
outcome_listed (Extends literals) = refl

end_listed : (large : Bool) (end : LinearEnd) → IsTrue (among (0 ∷ 5 ∷ 6 ∷ 7 ∷ []) (code (linear.status_by large end)))
end_listed true end = refl
end_listed false (RunDone kept stages dual units made) = refl
end_listed false (RunWide made wide) = refl
end_listed false RunBudget = refl

general_listed : {options : Options} {F : Cnf} {s : Status} {written said : List ℕ} → general.Answers options F written said s → IsTrue (among (0 ∷ 5 ∷ []) (code s))
general_listed (general.finished w silent) = refl
general_listed (general.stopped w few line) = refl

demo_listed : {number : ℕ} {s : Status} {written said : List ℕ} → demo.Answers number written said s → IsTrue (among (0 ∷ 5 ∷ []) (code s))
demo_listed (demo.finished w silent) = refl
demo_listed (demo.stopped w line) = refl

solve_listed : {options : Options} {F : Cnf} {s : Status} {written said : List ℕ} → solve.Answers options F written said s → IsTrue (among (5 ∷ 10 ∷ 20 ∷ []) (code s))
solve_listed (solve.satisfied w silent) = refl
solve_listed (solve.refuted w silent) = refl
solve_listed (solve.stopped w line) = refl

mus_listed : {options : Options} {F : Cnf} {s : Status} {written said : List ℕ} → mus.Answers options F written said s → IsTrue (among (0 ∷ 5 ∷ 10 ∷ []) (code s))
mus_listed (mus.extracted w silent) = refl
mus_listed (mus.satisfied w silent) = refl
mus_listed (mus.stopped w line) = refl

-- a status that is told is listed where the telling one is
as_told : (may : List ℕ) (s t : Status) → s ≡ t → IsTrue (among may (code t)) → IsTrue (among may (code s))
as_told may s t is h = subst (λ (u : Status). IsTrue (among may (code u))) (sym is) h

may_answer : (c : Command) (options : Options) (values : Values (inputs_of c)) (s : Status) (written said : List ℕ) → commands.Answers c options values s written said → IsTrue (among (results_of c) (code s))
may_answer command.ReducePure options values s written said a = as_told (0 ∷ []) s Done a.status_is refl
may_answer command.ReduceLinear options values s written said a =
    as_told (0 ∷ 5 ∷ 6 ∷ 7 ∷ []) s _ a.status_is
    (end_listed (is_too_large_under (linear.protected options values.0) values.0) (linear_run_under (linear.protected options values.0) values.0 options.pivots))
may_answer command.ReduceGeneral options values s written said a = general_listed a
may_answer command.Check options values s written said a = as_told (0 ∷ 5 ∷ 8 ∷ []) s _ a.status_is (verdict_listed (verdict_of values.0 values.1.0))
may_answer command.Extend options values s written said a = as_told (0 ∷ 5 ∷ 8 ∷ []) s _ a.status_is (outcome_listed (outcome_of values.0 values.1.0 (assignment_of values.1.1.0)))
may_answer command.Demo options values s written said a = demo_listed a
may_answer command.Solve options values s written said a = solve_listed a
may_answer command.Verify options values s written said a = as_told (0 ∷ 8 ∷ []) s _ a.status_is (answer_listed (first_failure_of_answer values.0 values.1.0))
may_answer command.Mus options values s written said a = mus_listed a
may_answer c options values s written said a = as_told (0 ∷ []) s Done a.status_is refl

results_only : (c : Command) (inputs : List Input) (options : List Word) (status : ℕ) (written : List ℕ) → number_of c ≡ None → length inputs ≡ length (inputs_of c) → Ran (words_for c inputs options) inputs status written → IsTrue (among results status)
    → IsTrue (are_options (keys_of c) options) × AreLawful c inputs × IsTrue (among (results_of c) status)
results_only c inputs options status written none count run h =
    let n = is_numbered run h in
    let a = gives c inputs options status written none count run (not_four status h) n.0 in (
      valid_with c inputs options status written run none count (not_four status h) n.0,
      are_texts nothing_known (inputs_of c) inputs a.values a.read,
      subst (λ (k : ℕ). IsTrue (among (results_of c) k)) (sym n.1) (may_answer c (options_by options) a.values (numbered status) written _ a.answers),
    )

results_come : (c : Command) (inputs : List Input) (options : List Word) (status : ℕ) → RunsWell c inputs options status → status ≢ 1 → AreLawful c inputs → IsTrue (among (results_of c) status)
results_come c inputs options status r other lawful =
    let a = replied c inputs options status r other lawful in
    subst (λ (k : ℕ). IsTrue (among (results_of c) k)) (sym a.1) (may_answer c (options_by options) a.4.values a.0 r.written a.3 a.4.answers)

-- EXACT STATUSES

-- what was said where nothing was
said_so : {words : List Word} {inputs : List Input} {n : ℕ} {written said : List ℕ} (s : Said words inputs n written said) (e : Ends words s.ran.shelf s.ran.out s.ran.say n) → e.said ≡ said
said_so {said = said} s e = all_written s.ran.say.before s.ran.say.after said e.said s.empty s.said_is e.taken.1.taken

saying : (c : Command) (inputs : List Input) (options : List Word) (n : ℕ) (written said : List ℕ) → number_of c ≡ None → length inputs ≡ length (inputs_of c) → Said (words_for c inputs options) inputs n written said → n ≢ 4
    → IsTrue (is_result (numbered n)) → HasAnswered c inputs (options_by options) (numbered n) written said
saying c inputs options n written said none count s other result =
    subst (HasAnswered c inputs (options_by options) (numbered n) written) (said_so s (s.ran.is_run.ended other)) (gives c inputs options n written none count s.ran other result)

-- inputs are read as one list of values
one_value : (c : Command) (inputs : List Input) (told : Told) (values others : Values (inputs_of c)) → length inputs ≡ length (inputs_of c) → AreShown told inputs → AreOf nothing_known (inputs_of c) inputs values → AreOf nothing_known (inputs_of c) inputs others
    → values ≡ others
one_value c inputs told values others count shown read reads =
    one_reading of_one_document told nothing_known (inputs_of c) (names_of inputs) values others nothing_small (are_told told inputs shown)
    (are_read told nothing_known (inputs_of c) inputs values count shown read) (are_read told nothing_known (inputs_of c) inputs others count shown reads)

-- so what they decide is what comes
decided_by : (c : Command) (inputs : List Input) (options : Options) (told : Told) (values : Values (inputs_of c)) (decided s : Status) (written said : List ℕ) → length inputs ≡ length (inputs_of c) → AreShown told inputs → AreOf nothing_known (inputs_of c) inputs values
    → commands.Decides c options values decided → HasAnswered c inputs options s written said → (s ≡ decided) × commands.Answers c options values s written said
decided_by c inputs options told values decided s written said count shown read decides a =
    let same = one_value c inputs told a.values values count shown a.read read in
    let answers = subst (λ (v : Values (inputs_of c)). commands.Answers c options v s written said) same a.answers in
    (decided_status c options values decided s written said decides answers, answers)

ends_as : (c : Command) (inputs : List Input) (options : List Word) (values : Values (inputs_of c)) (decided : Status) → AreOf nothing_known (inputs_of c) inputs values → commands.Decides c (options_by options) values decided → EndsWith c inputs options (code decided)
ends_as c inputs options values decided read decides status r other =
    let a = replied c inputs options status r other (are_texts nothing_known (inputs_of c) inputs values read) in
    a.1 ∙ ap code (decided_by c inputs (options_by options) r.well.ran.shelf.told values decided a.0 r.written a.3 r.count r.well.ran.shown read decides a.4).0

comes_to : (c : Command) (inputs : List Input) (options : List Word) (values : Values (inputs_of c)) (decided : Status) (Holds : List ℕ → List ℕ → Type 0) → number_of c ≡ None → length inputs ≡ length (inputs_of c) → AreOf nothing_known (inputs_of c) inputs values
    → commands.Decides c (options_by options) values decided → ((written said : List ℕ) → commands.Answers c (options_by options) values decided written said → Holds written said)
    → ComesTo c inputs options (code decided) Holds
comes_to c inputs options values decided Holds none count read decides holds = record {
  ends = ends_as c inputs options values decided read decides;
  only = λ status written said s h.
      let n = is_numbered s.ran h in
      let a = saying c inputs options status written said none count s (not_four status h) n.0 in
      let d = decided_by c inputs (options_by options) s.ran.shelf.told values decided (numbered status) written said count s.ran.shown read decides a in
      (n.1 ∙ ap code d.0, holds written said (subst (λ (t : Status). commands.Answers c (options_by options) values t written said) d.0 d.1));
}

linear_exactly : (formula : Input) (options : List Word) (F : Cnf) → Spells formula.text F → let o = options_by options in let s = linear.status_of o F in
    ComesTo command.ReduceLinear (formula ∷ []) options (code s) (λ written said. linear.Writes o F s written × (said ≡ linear.line_of o F))
linear_exactly formula options F spells =
    comes_to command.ReduceLinear (formula ∷ []) options (F, tt) (linear.status_of (options_by options) F) _ refl refl (spells, tt) refl (λ written said a. (a.writes, a.says))

check_exactly : (formula document : Input) (options : List Word) (F : Cnf) (d : Document) → Spells formula.text F → IsTextOfDocument document.text d → let v = verdict_of F d in
    ComesTo command.Check (formula ∷ document ∷ []) options (code (verdict_status v)) (λ written said. (written ≡ line (verdict_words v)) × (said ≡ []))
check_exactly formula document options F d spells read =
    comes_to command.Check (formula ∷ document ∷ []) options (F, (d, tt)) (verdict_status (verdict_of F d)) _ refl refl (spells, (read, tt)) refl (λ written said a. (a.writes, a.silent))

verify_exactly : (formula answer : Input) (F : Cnf) (a : Answer) → Spells formula.text F → IsAnswerText F.vars (length F.clauses) answer.text a → let v = verify.verdict_of F a in
    ComesTo command.Verify (formula ∷ answer ∷ []) [] (code (verdict_status v)) (λ written said. (written ≡ line (verdict_words v)) × (said ≡ []))
verify_exactly formula answer F a spells read =
    comes_to command.Verify (formula ∷ answer ∷ []) [] (F, (a, tt)) (verdict_status (verify.verdict_of F a)) _ refl refl (spells, (read, tt)) refl (λ written said t. (t.writes, t.silent))

extend_exactly : (formula document model : Input) (F : Cnf) (d : Document) (given : List ℤ) → Spells formula.text F → IsTextOfDocument document.text d → model_of model.text F.vars ≡ Ok given → let o = outcome_of F d (assignment_of given) in
    ComesTo command.Extend (formula ∷ document ∷ model ∷ []) [] (code (outcome_status o)) (λ written said. (written ≡ extend.written_of o) × (said ≡ extend.said_of o))
extend_exactly formula document model F d given spells read gives =
    comes_to command.Extend (formula ∷ document ∷ model ∷ []) [] (F, (d, (given, tt))) (outcome_status (outcome_of F d (assignment_of given))) _ refl refl (spells, (read, (gives, tt))) refl (λ written said a. (a.writes, a.says))

extend_serves : (protect : Option (List ℕ)) (class : Class) (formula document model : Input) (F : Cnf) (r : IsReduced protect class F document.text) (given : List ℤ) → Spells formula.text F → model_of model.text F.vars ≡ Ok given
    → IsModel F (among r.kept) (assignment_of given) → EndsWith command.Extend (formula ∷ document ∷ model ∷ []) [] 0
extend_serves protect class formula document model F r given spells gives satisfied status run other =
    let kept : IsModel F (among r.document.kept) (assignment_of given) = subst (λ (ps : List ℕ). IsModel F (among ps) (assignment_of given)) (sym r.same.0) satisfied in
    (extend_exactly formula document model F (Finished r.document) given spells (record { form = r.accepts.form; text = r.text_is }) gives).ends status run other
    ∙ ap (λ (o : Option Why). code (outcome_status (outcome_by F r.document (assignment_of given) o))) (accepted_extends F r.document (assignment_of given) r.accepts kept)

-- BUDGETS

reduce_5 : (options : List Word) → let o = options_by options in
    Tells (codes "reduce" ∷ codes "general" ∷ []) [] options 5
    (λ F written said. (o.conflicts < F.vars * 3 ^ F.vars) × general.WritesUnfinishedKernel o.protect o.conflicts F written × (said ≡ conflicts_line o.conflicts))
reduce_5 options formula written said s =
    let a = saying command.ReduceGeneral (formula ∷ []) options 5 written said refl refl s (λ e. omega (arith, e)) refl in
    let w = general_end.stop_of a.answers in
    (a.values.0, a.read.0, (w.1, w.0, w.2))

solve_5 : (options : List Word) → let o = options_by options in
    Tells (codes "solve" ∷ []) [] options 5 (λ F written said. solve.WritesUnfinishedSearch o F written × (said ≡ conflicts_line o.conflicts))
solve_5 options formula written said s =
    let a = saying command.Solve (formula ∷ []) options 5 written said refl refl s (λ e. omega (arith, e)) refl in
    (a.values.0, a.read.0, solve_end.stop_of a.answers)

mus_5 : (options : List Word) → let o = options_by options in
    Tells (codes "mus" ∷ []) [] options 5 (λ F written said. mus.WritesUnfinishedCore o F written × (said ≡ conflicts_line o.conflicts))
mus_5 options formula written said s =
    let a = saying command.Mus (formula ∷ []) options 5 written said refl refl s (λ e. omega (arith, e)) refl in
    (a.values.0, a.read.0, mus_end.stop_of a.answers)

solve_free : (formula : Input) (options : List Word) (F : Cnf) → Spells formula.text F → Kernel Matching F [] → EndsWith command.Solve (formula ∷ []) options 10
solve_free formula options F spells empty = ends_as command.Solve (formula ∷ []) options (F, tt) Satisfiable (spells, tt) (solve.no_kernel empty)

-- CERTIFICATES

reduce_trims : (options : List Word) → Gives (codes "reduce" ∷ codes "general" ∷ []) [] options 0 (general.WritesFinished (options_by options))
reduce_trims options formula written run =
    let a = gives command.ReduceGeneral (formula ∷ []) options 0 written refl refl run (λ e. omega (arith, e)) refl in
    (a.values.0, a.read.0, (general_end.kernel_of a.answers).0)

solve_trims : (options : List Word) → Gives (codes "solve" ∷ []) [] options 20 (solve.WritesRefutation (options_by options))
solve_trims options formula written run =
    let a = gives command.Solve (formula ∷ []) options 20 written refl refl run (λ e. omega (arith, e)) refl in
    (a.values.0, a.read.0, (solve_end.refutation_of a.answers).0)

mus_trims : (options : List Word) → Gives (codes "mus" ∷ []) [] options 0 (mus.WritesCore (options_by options))
mus_trims options formula written run =
    let a = gives command.Mus (formula ∷ []) options 0 written refl refl run (λ e. omega (arith, e)) refl in
    (a.values.0, a.read.0, (mus_end.core_of a.answers).0)

-- DEMO

-- what is asked for
abbrev demo_request : ℕ → Request
demo_request number = record { command = command.Demo; names = []; options = record (options_by []) { number = number } }

within : (word : Word) (number : ℕ) → natural word ≡ Some number → number < 2 ^ 64 → number_within (numbers_from 0 (2 ^ 64 - 1)) (natural word) ≡ Some number
within word number e few =
    let low : nat_le 0 number ≡ true = le-leb 0 number (omega arith) in
    let high : nat_le number 18446744073709551615 ≡ true = le-leb number 18446744073709551615 (omega (arith, few)) in
    ap (number_within (numbers_from 0 (2 ^ 64 - 1))) e ∙ ap (λ (b : Bool). cond b (Some number) None) (and_from (nat_le 0 number) (nat_le number 18446744073709551615) low high)

asks_demo : (word : Word) (number : ℕ) → natural word ≡ Some number → number < 2 ^ 64 → request_of (codes "demo" ∷ word ∷ []) ≡ Some (demo_request number)
asks_demo word number e few = is_of command.Demo (word ∷ []) ∙ rw (within word number e few) refl

demo_ends : (word : Word) (number status : ℕ) (written said : List ℕ) → natural word ≡ Some number → number < 2 ^ 64 → Said (codes "demo" ∷ word ∷ []) [] status written said → status ≢ 4 → status ≢ 9
    → ((status ≡ 0) × demo.WritesDemo number written) ⊎ ((status ≡ 5) × general.WritesUnfinishedKernel None demo.conflicts (demo_formula number) written × (said ≡ conflicts_line demo.conflicts))
demo_ends word number status written said is few s uncut memory = by e.status e.answer_is e.allowed
  where
    words : List Word
    words = codes "demo" ∷ word ∷ []

    e : Ends words s.ran.shelf s.ran.out s.ran.say status
    e = s.ran.is_run.ended uncut

    out_is : e.written ≡ written
    out_is = all_written s.ran.out.before s.ran.out.after written e.written s.ran.empty s.ran.written_is e.taken.0.taken

    by : (t : Status) → status ≡ code t → Allows words s.ran.shelf t e.written e.said → ((status ≡ 0) × demo.WritesDemo number written) ⊎ ((status ≡ 5) × general.WritesUnfinishedKernel None demo.conflicts (demo_formula number) written × (said ≡ conflicts_line demo.conflicts))
    by Words at h = absurd (let unlawful = h.1.unlawful in let asked = asks_demo word number is few in let f : ⊥ = cc (asked, unlawful) in f)
    by Refusal at h = absurd (subst (λ (o : Option Request). DeservesStop o s.ran.shelf.told h.0) (asks_demo word number is few) h.1)
    by ReadFault at h = absurd (subst (λ (o : Option Request). HasReadFault o s.ran.shelf) (asks_demo word number is few) h.0).1
    by WriteFault at h = absurd h
    by Memory at h = absurd (memory at)
    by Done at h =
        let a = demo_end.rows_of (result_at words s.ran.shelf (demo_request number) Done e.written e.said (asks_demo word number is few) refl h).answers in
        inl (at, subst (demo.WritesDemo number) out_is a.0)
    by Budget at h =
        let a = demo_end.stop_of (result_at words s.ran.shelf (demo_request number) Budget e.written e.said (asks_demo word number is few) refl h).answers in
        inr (at, subst (general.WritesUnfinishedKernel None demo.conflicts (demo_formula number)) out_is a.0, sym (said_so s e) ∙ a.1)
    by t at h = elim (result_at words s.ran.shelf (demo_request number) t e.written e.said (asks_demo word number is few) refl h).answers [ ]

-- WHAT IS SAID

-- of a result, which texts are empty
quiet : (o : Option Request) (told : Told) (s : Status) (written said : List ℕ) → IsResult o told s written said → IsQuiet s written said
quiet None told s written said h = absurd h
quiet (Some request) told s written said h = result_quiet request.command request.options h.values s written said h.answers

unsaid : (words : List Word) (shelf : Shelved) (s : Status) (written said : List ℕ) → IsTrue (among (0 ∷ 10 ∷ 20 ∷ []) (code s)) → Allows words shelf s written said → said ≡ []
unsaid words shelf Done written said h a = quiet (request_of words) shelf.told Done written said a
unsaid words shelf Satisfiable written said h a = quiet (request_of words) shelf.told Satisfiable written said a
unsaid words shelf Unsatisfiable written said h a = quiet (request_of words) shelf.told Unsatisfiable written said a
unsaid words shelf s written said h a = absurd (let f : ⊥ = cc h in f)

unwritten : (words : List Word) (shelf : Shelved) (s : Status) (written said : List ℕ) → IsTrue (among (1 ∷ 2 ∷ 3 ∷ 6 ∷ 7 ∷ 9 ∷ []) (code s)) → Allows words shelf s written said → written ≡ []
unwritten words shelf Words written said h a = a.2.0
unwritten words shelf Refusal written said h a = a.2.0
unwritten words shelf ReadFault written said h a = a.1.0
unwritten words shelf Memory written said h a = a.0
unwritten words shelf TooWide written said h a = quiet (request_of words) shelf.told TooWide written said a
unwritten words shelf TooLarge written said h a = quiet (request_of words) shelf.told TooLarge written said a
unwritten words shelf WriteFault written said h a = absurd a
unwritten words shelf s written said h a = absurd (let f : ⊥ = cc h in f)

-- a listed number is not 4
uncut : (may : List ℕ) (n : ℕ) → among may 4 ≡ false → IsTrue (among may n) → n ≢ 4
uncut may n out h four = let no : among may 4 ≡ true = subst (λ (k : ℕ). among may k ≡ true) four h in let f : ⊥ = cc (no, out) in f

says_nothing : (words : List Word) (inputs : List Input) (status : ℕ) (written said : List ℕ) → Said words inputs status written said → IsTrue (among (0 ∷ 10 ∷ 20 ∷ []) status) → said ≡ []
says_nothing words inputs status written said s h =
    let e = s.ran.is_run.ended (uncut (0 ∷ 10 ∷ 20 ∷ []) status refl h) in
    sym (said_so s e) ∙ unsaid words s.ran.shelf e.status e.written e.said (subst (λ (n : ℕ). IsTrue (among (0 ∷ 10 ∷ 20 ∷ []) n)) e.answer_is h) e.allowed

writes_nothing : (words : List Word) (inputs : List Input) (status : ℕ) (written : List ℕ) → Ran words inputs status written → IsTrue (among (1 ∷ 2 ∷ 3 ∷ 6 ∷ 7 ∷ 9 ∷ []) status) → written ≡ []
writes_nothing words inputs status written run h =
    let e = run.is_run.ended (uncut (1 ∷ 2 ∷ 3 ∷ 6 ∷ 7 ∷ 9 ∷ []) status refl h) in
    sym (all_written run.out.before run.out.after written e.written run.empty run.written_is e.taken.0.taken)
    ∙ unwritten words run.shelf e.status e.written e.said (subst (λ (n : ℕ). IsTrue (among (1 ∷ 2 ∷ 3 ∷ 6 ∷ 7 ∷ 9 ∷ []) n)) e.answer_is h) e.allowed

-- what is allowed with this number
allowed_at : {words : List Word} {inputs : List Input} {n : ℕ} {written : List ℕ} (run : Ran words inputs n written) (other : n ≢ 4) → let e = run.is_run.ended other in Allows words run.shelf (numbered n) e.written e.said
allowed_at {words = words} {n = n} run other = let e = run.is_run.ended other in subst (λ (s : Status). Allows words run.shelf s e.written e.said) (one_status e.status n e.answer_is) e.allowed

says_word : (words : List Word) (inputs : List Input) (written said : List ℕ) → Said words inputs 1 written said → (i : ℕ) × IsRefusedAt words i × (said ≡ line_of (stop.Words i))
says_word words inputs written said s =
    let h = allowed_at s.ran (λ f. omega (arith, f)) in
    (h.0, h.1, sym (said_so s (s.ran.is_run.ended (λ f. omega (arith, f)))) ∙ h.2.1)

-- of refused words
refused_status : (words : List Word) (shelf : Shelved) (s : Status) (written said : List ℕ) → request_of words ≡ None → Allows words shelf s written said → IsTrue (among (1 ∷ 4 ∷ 9 ∷ []) (code s))
refused_status words shelf Words written said none h = refl
refused_status words shelf Memory written said none h = refl
refused_status words shelf WriteFault written said none h = refl
refused_status words shelf Refusal written said none h = absurd (subst (λ (o : Option Request). DeservesStop o shelf.told h.0) none h.1)
refused_status words shelf ReadFault written said none h = absurd (subst (λ (o : Option Request). HasReadFault o shelf) none h.0)
refused_status words shelf s written said none h = absurd (subst (λ (o : Option Request). IsResult o shelf.told s written said) none h)

refuses_words : (words : List Word) (shelf : Shelved) (out say : Sunk) (status : ℕ) → IsRun words shelf out say status → request_of words ≡ None → IsTrue (among (1 ∷ 4 ∷ 9 ∷ []) status)
refuses_words words shelf out say status run none = elim (cases_eq status 4) [
  | inl four ↦ subst (λ (n : ℕ). IsTrue (among (1 ∷ 4 ∷ 9 ∷ []) n)) (sym four) refl
  | inr other ↦ let e = run.ended other in
      subst (λ (n : ℕ). IsTrue (among (1 ∷ 4 ∷ 9 ∷ []) n)) (sym e.answer_is) (refused_status words shelf e.status e.written e.said none e.allowed)
]

-- what is allowed with the status of such a number
allowed_in : {words : List Word} {shelf : Shelved} {out say : Sunk} {n : ℕ} (e : Ends words shelf out say n) → Allows words shelf (numbered n) e.written e.said
allowed_in {words = words} {shelf = shelf} {n = n} e = subst (λ (s : Status). Allows words shelf s e.written e.said) (one_status e.status n e.answer_is) e.allowed

words_refused : (words : List Word) (shelf : Shelved) (out say : Sunk) → IsRun words shelf out say 1 → request_of words ≡ None
words_refused words shelf out say run = (allowed_in (run.ended (λ f. omega (arith, f)))).1.unlawful

shelf_failed : (words : List Word) (shelf : Shelved) (out say : Sunk) → IsRun words shelf out say 3 → HasReadFault (request_of words) shelf
shelf_failed words shelf out say run = (allowed_in (run.ended (λ f. omega (arith, f)))).0

sink_failed : (words : List Word) (shelf : Shelved) (out say : Sunk) → IsRun words shelf out say 4 → Rose out.faults_before out.faults_after ⊎ Rose say.faults_before say.faults_after
sink_failed words shelf out say run = let e = run.cut refl in rose_in out say e.written e.said e.cut

-- a text, or a line, of such an ending was cut short
cuts_short : (words : List Word) (inputs : List Input) (written said : List ℕ) (r : Said words inputs 4 written said) → IsCutShort words r.ran.shelf written said
cuts_short words inputs written said r = record { status = e.status; text = e.written; notice = e.said; allowed = e.allowed; short = by e.cut }
  where
    out : Sunk
    out = r.ran.out

    say : Sunk
    say = r.ran.say

    e : IsCutOff words r.ran.shelf out say ⊤ ⊤
    e = r.ran.is_run.cut refl

    by : IsCutIn out say e.written e.said ⊤ → ((n : ℕ) × (n < length e.written) × (written ≡ take n e.written) × (said ≡ []))
        ⊎ ((written ≡ e.written) × ((n : ℕ) × (n < length e.said) × (said ≡ take n e.said)))
    by (inl first) = inl (
      first.0.count,
      first.0.part,
      sym (all_written out.before out.after written (take first.0.count e.written) r.ran.empty r.ran.written_is first.0.taken),
      let quiet : Some said ≡ Some [] = sym r.said_is ∙ first.1 ∙ r.empty in cc,
    )
    by (inr second) = inr (
      sym (all_written out.before out.after written e.written r.ran.empty r.ran.written_is second.0.taken),
      (second.1.count, second.1.part, sym (all_written say.before say.after said (take second.1.count e.said) r.empty r.said_is second.1.taken)),
    )

-- the first bad input is refused
are_refused : (told : Told) (known : Known) (grammars : List Grammar) (inputs : List Input) (s : Stop) → AreShown told inputs → IsFirstBad told known grammars (names_of inputs) s → AreRefused known grammars inputs s
are_refused told known [] inputs s shown bad = absurd bad
are_refused told known (grammar ∷ grammars) [] s shown bad = absurd bad
are_refused told known (grammar ∷ grammars) (i ∷ inputs) s shown (inl bad) = inl (subst (λ (o : Option (List ℕ)). IsRefusal grammar known o s) shown.0 bad)
are_refused told known (grammar ∷ grammars) (i ∷ inputs) s shown (inr later) =
    inr (later.0, shown_if (IsTextOf grammar known later.0) (told i.name) i.text shown.0 later.1, are_refused told (known_behind grammar known later.0) grammars inputs s shown.1 later.2)

says_input : (c : Command) (inputs : List Input) (options : List Word) (written said : List ℕ) → number_of c ≡ None → length inputs ≡ length (inputs_of c) → Said (words_for c inputs options) inputs 2 written said
    → (s : Stop) × AreRefused nothing_known (inputs_of c) inputs s × (said ≡ line_of s)
says_input c inputs options written said none count s =
    let h = allowed_at s.ran (λ f. omega (arith, f)) in
    let told = s.ran.shelf.told in
    let bad : IsFirstBad told nothing_known (inputs_of c) (names_of inputs) h.0 = elim (cases_Bool (are_options (keys_of c) options)) [
      | inl valid ↦ subst (λ (o : Option Request). DeservesStop o told h.0) (asked c inputs options none count valid) h.1
      | inr invalid ↦ absurd (subst (λ (o : Option Request). DeservesStop o told h.0) (unasked c inputs options none count invalid) h.1)
    ] in
    (h.0, are_refused told nothing_known (inputs_of c) inputs h.0 s.ran.shown bad, sym (said_so s (s.ran.is_run.ended (λ f. omega (arith, f)))) ∙ h.2.1)

says_fault : (words : List Word) (inputs : List Input) (written said : List ℕ) → Said words inputs 3 written said → said ≡ line_of stop.Read
says_fault words inputs written said r =
    let h = allowed_at r.ran (λ f. omega (arith, f)) in
    sym (said_so r (r.ran.is_run.ended (λ f. omega (arith, f)))) ∙ h.1.1

says_memory : (words : List Word) (inputs : List Input) (written said : List ℕ) → Said words inputs 9 written said → said ≡ line_of stop.Memory
says_memory words inputs written said s =
    let h = allowed_at s.ran (λ f. omega (arith, f)) in
    sym (said_so s (s.ran.is_run.ended (λ f. omega (arith, f)))) ∙ h.1

pub status_claim : StatusClaim
status_claim = record {
  every_status = every_status;
  results_only = results_only;
  results_come = results_come;
  linear_exactly = linear_exactly;
  check_exactly = check_exactly;
  verify_exactly = verify_exactly;
  extend_exactly = extend_exactly;
  extend_serves = extend_serves;
  reduce_5 = reduce_5;
  solve_5 = solve_5;
  mus_5 = mus_5;
  solve_free = solve_free;
  demo = demo_ends;
  certifies = λ class options formula written run. has_reduced class formula options written run;
  reduce_trims = reduce_trims;
  solve_trims = solve_trims;
  mus_trims = mus_trims;
  refuses_words = refuses_words;
  words_refused = words_refused;
  shelf_failed = shelf_failed;
  sink_failed = sink_failed;
  cuts_short = cuts_short;
  says_nothing = says_nothing;
  writes_nothing = writes_nothing;
  says_word = says_word;
  says_input = says_input;
  says_fault = says_fault;
  says_memory = says_memory;
}
