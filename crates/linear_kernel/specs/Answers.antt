-- What the reducer returns for a formula and a number of pivots. It may run out of memory at any time.
use Rattle.std.specs.Prelude.{◌≡◌, ⊤, ℕ, false, length, Result, Ok, Err, IsTrue}
use Rattle.lk_model.specs.Formulas.Formula.{Cnf, occurring_count}
use Rattle.lk_model.specs.Linear.LinearRun.{RunDone, RunWide, RunBudget, linear_run, is_too_large}
use Rattle.lk_model.specs.declared.result.LinearResult.{LinearResult}
use Rattle.linear_kernel.specs.declared.stop.LinearStop.{LinearStop}
use Rattle.linear_kernel.specs.declared.stop.LinearStop.TheVariants.{TooLarge, TooWide, Budget, OutOfMemory}

-- The end of the linear run, and its numbers. A formula that is too large is reported by its size, and no other one is.
abbrev pub AnswersRun : Cnf → ℕ → Result LinearResult LinearStop → Type 0
AnswersRun F pivots (Ok r) = (is_too_large F ≡ false) × ((made : ℕ) × (linear_run F pivots ≡ RunDone r.kept r.stages r.dual r.units made))
AnswersRun F pivots (Err (TooLarge vars clauses)) = IsTrue (is_too_large F) × (vars ≡ occurring_count F) × (clauses ≡ length F.clauses)
AnswersRun F pivots (Err (TooWide made wide)) = (is_too_large F ≡ false) × (linear_run F pivots ≡ RunWide made wide)
AnswersRun F pivots (Err (Budget n)) = (is_too_large F ≡ false) × (linear_run F pivots ≡ RunBudget) × (n ≡ pivots)
AnswersRun F pivots (Err OutOfMemory) = ⊤
