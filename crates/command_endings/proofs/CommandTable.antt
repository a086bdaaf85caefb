-- What is said of the answers of each command. The last clause of a lemma is that of the commands without one of their own.
use Rattle.std.proofs.Common.{◌≡◌, ℕ, Bool, true, false, List, [], sym, ◌∙◌, subst}
use Rattle.std.specs.Prelude.{⊤}
use Rattle.lk_model.specs.Formulas.Assignment.{assignment_of}
use Rattle.lk_model.specs.Formulas.Crossed.{formula_without}
use Rattle.lk_model.specs.Formulas.Formula.{Cnf}
use Rattle.lk_model.specs.Linear.LinearRun.{LinearEnd, RunDone, RunWide, RunBudget, linear_run_under, is_too_large_under}
use Rattle.lean_checker.specs.Verdicts.{verdict_of}
use Rattle.lean_checker.specs.declared.verdict.Verdict.{Verdict}
use Rattle.lean_checker.specs.declared.verdict.Verdict.TheVariants as verdict
use Rattle.command_words.specs.Shapes.{inputs_of}
use Rattle.command_words.specs.Settings.{Options}
use Rattle.command_words.specs.declared.command.Command.{Command}
use Rattle.command_words.specs.declared.command.Command.TheVariants.{ReducePure, ReduceLinear, ReduceGeneral, Check, Extend, Demo, Solve, Verify, Mus}
use Rattle.command_inputs.specs.Inputs.{Values}
use Rattle.command_endings.specs.Commands.{Answers, Decides}
use Rattle.command_endings.specs.Commands.Demo as demo
use Rattle.command_endings.specs.Commands.Extend.{Outcome, Open, Fails, Extends, outcome_of, outcome_status, said_of}
use Rattle.command_endings.specs.Commands.Mus as mus
use Rattle.command_endings.specs.Commands.ReduceGeneral as general
use Rattle.command_endings.specs.Commands.ReduceLinear.{protected, status_by, Writes, line_by}
use Rattle.command_endings.specs.Commands.Solve as solve
use Rattle.command_endings.specs.Commands.Verify as verify
use Rattle.status_lines.specs.Verdicts.{verdict_status}
use Rattle.status_lines.specs.declared.status.Status.{Status}
use Rattle.status_lines.specs.declared.status.Status.TheVariants.{Done, TooWide, TooLarge, Satisfiable, Unsatisfiable}
use Rattle.command_endings.proofs.GeneralEndings.{general_status}
use Rattle.command_endings.proofs.SolveEndings.{solve_status}
use Rattle.command_endings.proofs.MusEndings.{mus_status}

-- of the statuses that it may answer with, it is the decided one
pub one_status : (command : Command) (options : Options) (values : Values (inputs_of command)) (decided status : Status) (written said : List ℕ) → Decides command options values decided → Answers command options values status written said → status ≡ decided
one_status ReducePure options values decided status written said d a = a.status_is ∙ sym d
one_status ReduceGeneral options values decided status written said d a = general_status d a
one_status Demo options values decided status written said d a = absurd d
one_status Solve options values decided status written said d a = solve_status d a
one_status Mus options values decided status written said d a = mus_status d a
one_status command options values decided status written said d a = a.status_is ∙ sym d

-- with status 0, 10 and 20 nothing is said, and with 6 and 7 nothing is written
abbrev pub IsQuiet : Status → List ℕ → List ℕ → Type 0
IsQuiet Done written said = said ≡ []
IsQuiet Satisfiable written said = said ≡ []
IsQuiet Unsatisfiable written said = said ≡ []
IsQuiet TooWide written said = written ≡ []
IsQuiet TooLarge written said = written ≡ []
IsQuiet _ written said = ⊤

as_quiet : (s t : Status) (written said : List ℕ) → t ≡ s → IsQuiet s written said → IsQuiet t written said
as_quiet s t written said is h = subst (λ (u : Status). IsQuiet u written said) (sym is) h

verdict_quiet : (v : Verdict) (written said : List ℕ) → said ≡ [] → IsQuiet (verdict_status v) written said
verdict_quiet verdict.Accepted written said silent = silent
verdict_quiet (verdict.Unfinished learned) written said silent = tt
verdict_quiet (verdict.No why) written said silent = tt

outcome_quiet : (o : Outcome) (written said : List ℕ) → said ≡ said_of o → IsQuiet (outcome_status o) written said
outcome_quiet Open written said says = tt
outcome_quiet (Fails why) written said says = tt
outcome_quiet (Extends literals) written said says = says

linear_quiet : (options : Options) (F rest : Cnf) (large : Bool) (end : LinearEnd) (written said : List ℕ) → Writes options F (status_by large end) written → said ≡ line_by options.pivots rest large end → IsQuiet (status_by large end) written said
linear_quiet options F rest true end written said writes says = writes
linear_quiet options F rest false (RunDone kept stages dual units made) written said writes says = says
linear_quiet options F rest false (RunWide made wide) written said writes says = writes
linear_quiet options F rest false RunBudget written said writes says = tt

general_quiet : {options : Options} {F : Cnf} {written said : List ℕ} {status : Status} → general.Answers options F written said status → IsQuiet status written said
general_quiet (general.finished w silent) = silent
general_quiet (general.stopped w few line) = tt

demo_quiet : {number : ℕ} {written said : List ℕ} {status : Status} → demo.Answers number written said status → IsQuiet status written said
demo_quiet (demo.finished w silent) = silent
demo_quiet (demo.stopped w line) = tt

solve_quiet : {options : Options} {F : Cnf} {written said : List ℕ} {status : Status} → solve.Answers options F written said status → IsQuiet status written said
solve_quiet (solve.satisfied w silent) = silent
solve_quiet (solve.refuted w silent) = silent
solve_quiet (solve.stopped w line) = tt

mus_quiet : {options : Options} {F : Cnf} {written said : List ℕ} {status : Status} → mus.Answers options F written said status → IsQuiet status written said
mus_quiet (mus.extracted w silent) = silent
mus_quiet (mus.satisfied w silent) = silent
mus_quiet (mus.stopped w line) = tt

-- so each answer is
pub result_quiet : (command : Command) (options : Options) (values : Values (inputs_of command)) (status : Status) (written said : List ℕ) → Answers command options values status written said → IsQuiet status written said
result_quiet ReducePure options values status written said a = as_quiet Done status written said a.status_is a.silent
result_quiet ReduceLinear options values status written said a =
    let F = values.0 in
    let large = is_too_large_under (protected options F) F in
    let end = linear_run_under (protected options F) F options.pivots in
    as_quiet (status_by large end) status written said a.status_is (linear_quiet options F (formula_without F (protected options F)) large end written said (subst (λ (s : Status). Writes options F s written) a.status_is a.writes) a.says)
result_quiet ReduceGeneral options values status written said a = general_quiet a
result_quiet Check options values status written said a = as_quiet _ status written said a.status_is (verdict_quiet (verdict_of values.0 values.1.0) written said a.silent)
result_quiet Extend options values status written said a = as_quiet _ status written said a.status_is (outcome_quiet (outcome_of values.0 values.1.0 (assignment_of values.1.1.0)) written said a.says)
result_quiet Demo options values status written said a = demo_quiet a
result_quiet Solve options values status written said a = solve_quiet a
result_quiet Verify options values status written said a = as_quiet _ status written said a.status_is (verdict_quiet (verify.verdict_of values.0 values.1.0) written said a.silent)
result_quiet Mus options values status written said a = mus_quiet a
result_quiet command options values status written said a = as_quiet Done status written said a.status_is a.silent
