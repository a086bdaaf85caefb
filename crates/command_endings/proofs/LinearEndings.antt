-- How a linear run that does not give a document is answered, and how one that does.
use Rattle.std.proofs.Common.{◌≡◌, ◌∙◌, ℕ, Bool, true, false, List, [], Err, refl, sym, ap, subst}
use Rattle.std.specs.Prelude.{IsTrue}
use Rattle.lk_model.specs.Formulas.Formula.{Cnf}
use Rattle.lk_model.specs.Formulas.Crossed.{formula_without}
use Rattle.lk_model.specs.Linear.LinearRun.{LinearEnd, RunDone, RunWide, RunBudget, linear_run, is_too_large}
use Rattle.lk_model.specs.Reduction.{WritesReduction}
use Rattle.lk_model.specs.declared.class.Class.TheVariants.{Linear}
use Rattle.linear_kernel.specs.Answers.{AnswersRun}
use Rattle.linear_kernel.specs.declared.stop.LinearStop.{LinearStop}
use Rattle.linear_kernel.specs.declared.stop.LinearStop.TheVariants as stop
use Rattle.reductions.specs.Founds.{EndsDone}
use Rattle.command_endings.specs.Commands.ReduceLinear.{protected, status_by, line_by, Writes, Answers}
use Rattle.status_lines.specs.RunLines.{budget_line, too_large_line}
use Rattle.status_lines.specs.LinearStops.{TellsStop}
use Rattle.command_words.specs.Settings.{Options}
use Rattle.status_lines.specs.Statuses.{is_result, is_silent}
use Rattle.status_lines.specs.declared.status.Status.{Status}
use Rattle.status_lines.specs.declared.status.Status.TheVariants.{Done, Budget, TooWide, TooLarge}

-- a run that ends done has the status of it
pub ends_done : (pivots : ℕ) (rest : Cnf) → EndsDone rest pivots → status_by (is_too_large rest) (linear_run rest pivots) ≡ Done
ends_done pivots rest ends = let a = ends.1 in λ i. status_by (a.0 i) (a.1.1 i)

-- it has nothing to say
pub run_silent : (pivots : ℕ) (rest : Cnf) (large : Bool) (end : LinearEnd) → is_silent (status_by large end) ≡ true → line_by pivots rest large end ≡ []
run_silent pivots rest true end is = absurd (let f : ⊥ = cc is in f)
run_silent pivots rest false (RunDone kept stages dual units made) is = refl
run_silent pivots rest false (RunWide made wide) is = absurd (let f : ⊥ = cc is in f)
run_silent pivots rest false RunBudget is = absurd (let f : ⊥ = cc is in f)

pub done_silent : (pivots : ℕ) (rest : Cnf) (large : Bool) (end : LinearEnd) → Done ≡ status_by large end → line_by pivots rest large end ≡ []
done_silent pivots rest large end e = run_silent pivots rest large end (subst (λ (s : Status). is_silent s ≡ true) e refl)

-- WHERE THERE IS NO DOCUMENT

-- the status is that of a result
pub stop_result : (s : LinearStop) (status : Status) (written said : List ℕ) → TellsStop s status written said → IsTrue (is_result status)
stop_result (stop.TooLarge vars clauses) status written said t = subst (λ (u : Status). IsTrue (is_result u)) (sym t.0) refl
stop_result (stop.TooWide made wide) status written said t = subst (λ (u : Status). IsTrue (is_result u)) (sym t.0) refl
stop_result (stop.Budget pivots) status written said t = subst (λ (u : Status). IsTrue (is_result u)) (sym t.0) refl
stop_result stop.OutOfMemory status written said t = absurd t

stop_at : (options : Options) (F : Cnf) (s : LinearStop) (status : Status) (written said : List ℕ) → AnswersRun (formula_without F (protected options F)) options.pivots (Err s) → TellsStop s status written said
    → Answers options F status written said
stop_at options F (stop.TooLarge vars clauses) status written said a t =
    let rest = formula_without F (protected options F) in
    let end = linear_run rest options.pivots in
    let is : status_by (is_too_large rest) end ≡ TooLarge = ap (λ (b : Bool). status_by b end) a.0 in
    let numbers : too_large_line vars clauses ≡ line_by options.pivots rest true end = λ i. too_large_line (a.1 i) (a.2 i) in
    record {
      status_is = t.0 ∙ sym is;
      writes = subst (λ (u : Status). Writes options F u written) (sym t.0) t.1;
      says = t.2 ∙ numbers ∙ sym (ap (λ (b : Bool). line_by options.pivots rest b end) a.0);
    }
stop_at options F (stop.TooWide made wide) status written said a t =
    let rest = formula_without F (protected options F) in
    let is : status_by (is_too_large rest) (linear_run rest options.pivots) ≡ TooWide = λ i. status_by (a.0 i) (a.1 i) in
    let says : line_by options.pivots rest (is_too_large rest) (linear_run rest options.pivots) ≡ line_by options.pivots rest false (RunWide made wide) = λ i. line_by options.pivots rest (a.0 i) (a.1 i) in
    record {
      status_is = t.0 ∙ sym is;
      writes = subst (λ (u : Status). Writes options F u written) (sym t.0) t.1;
      says = t.2 ∙ sym says;
    }
stop_at options F (stop.Budget pivots) status written said a t =
    let rest = formula_without F (protected options F) in
    let is : status_by (is_too_large rest) (linear_run rest options.pivots) ≡ Budget = λ i. status_by (a.0 i) (a.1 i) in
    let says : line_by options.pivots rest (is_too_large rest) (linear_run rest options.pivots) ≡ line_by options.pivots rest false RunBudget = λ i. line_by options.pivots rest (a.0 i) (a.1 i) in
    record {
      status_is = t.0 ∙ sym is;
      writes = subst (λ (u : Status). Writes options F u written) (sym t.0) t.1;
      says = t.2 ∙ ap budget_line a.2 ∙ sym says;
    }
stop_at options F stop.OutOfMemory status written said a t = absurd t

pub stop_answers : (options : Options) (F rest : Cnf) (s : LinearStop) (status : Status) (written said : List ℕ) → rest ≡ formula_without F (protected options F) → AnswersRun rest options.pivots (Err s) → TellsStop s status written said
    → Answers options F status written said
stop_answers options F rest s status written said is a t = stop_at options F s status written said (subst (λ (G : Cnf). AnswersRun G options.pivots (Err s)) is a) t

-- WHERE THERE IS ONE

pub done_answers : (options : Options) (F rest : Cnf) (status : Status) (written said : List ℕ) → rest ≡ formula_without F (protected options F) → status_by (is_too_large rest) (linear_run rest options.pivots) ≡ Done → status ≡ Done
    → WritesReduction F Linear options.protect options.pivots written → said ≡ [] → Answers options F status written said
done_answers options F rest status written said is done told writes silent =
    let left = formula_without F (protected options F) in
    let there : status_by (is_too_large left) (linear_run left options.pivots) ≡ Done = subst (λ (G : Cnf). status_by (is_too_large G) (linear_run G options.pivots) ≡ Done) is done in
    record {
      status_is = told ∙ sym there;
      writes = subst (λ (u : Status). Writes options F u written) (sym told) writes;
      says = silent ∙ sym (done_silent options.pivots left (is_too_large left) (linear_run left options.pivots) (sym there));
    }
