-- What the calls of a run return. Each may run out of memory at any time.
use Rattle.std.specs.Prelude.{◌≡◌, ⊤, ℕ, List, Some, None, Result, Ok, Err}
use Rattle.lk_model.specs.Linear.Arithmetic.{first_wide}
use Rattle.lk_model.specs.Linear.LinearRun.{RunDone, RunWide, RunBudget, Moment, Moved, Later, Ended}
use Rattle.lk_model.specs.declared.wide.Wide.{Wide as Operands}
use Rattle.lk_model.specs.declared.result.LinearResult.{LinearResult}
use Rattle.exact_pivot.specs.declared.stop.PivotStop.{PivotStop}
use Rattle.exact_pivot.specs.declared.stop.PivotStop.TheVariants.{Wide, OutOfMemory}
use Rattle.linear_kernel.specs.declared.stop.LinearStop.{LinearStop}
use Rattle.linear_kernel.specs.declared.stop.LinearStop.TheVariants.{TooLarge, TooWide, Budget, OutOfMemory as MemoryOut}
use Rattle.linear_kernel.specs.declared.run.Progress.{Progress}
use Rattle.linear_kernel.specs.declared.run.Progress.TheVariants.{On, Done}

-- the stop of a run that has made `made` pivots
abbrev pub stop_of : ℕ → PivotStop → LinearStop
stop_of made (Wide w) = TooWide made w
stop_of made OutOfMemory = MemoryOut

-- After `made` pivots a call that makes these results returns this value if none of them is out of range, and otherwise
-- the operands of the first one that is.
abbrev pub GivesAfter : {X : Type 0} → ℕ → List Operands → X → Result X LinearStop → Type 0
GivesAfter made results there (Ok x) = (first_wide results ≡ None) × (x ≡ there)
GivesAfter made results there (Err (TooWide n w)) = (n ≡ made) × (first_wide results ≡ Some w)
GivesAfter made results there (Err (TooLarge vars clauses)) = ⊥
GivesAfter made results there (Err (Budget n)) = ⊥
GivesAfter made results there (Err MemoryOut) = ⊤

-- a call that makes a move which is not the end, and for which a pivot is left
abbrev pub LeadsOn : Moved → Result Moment LinearStop → Type 0
LeadsOn there (Ok m) = there ≡ Later m
LeadsOn there (Err (TooWide made w)) = there ≡ Ended (RunWide made w)
LeadsOn there (Err (TooLarge vars clauses)) = ⊥
LeadsOn there (Err (Budget n)) = ⊥
LeadsOn there (Err MemoryOut) = ⊤

-- a call that makes the end, after `made` pivots
abbrev pub LeadsOut : ℕ → Moved → Result LinearResult LinearStop → Type 0
LeadsOut made there (Ok r) = there ≡ Ended (RunDone r.kept r.stages r.dual r.units made)
LeadsOut made there (Err (TooWide n w)) = there ≡ Ended (RunWide n w)
LeadsOut made there (Err (TooLarge vars clauses)) = ⊥
LeadsOut made there (Err (Budget n)) = ⊥
LeadsOut made there (Err MemoryOut) = ⊤

-- a call that makes any move of a run that may make `budget` pivots
abbrev pub LeadsTo : ℕ → Moved → Result Progress LinearStop → Type 0
LeadsTo budget there (Ok (On m)) = there ≡ Later m
LeadsTo budget there (Ok (Done r)) = (made : ℕ) × (there ≡ Ended (RunDone r.kept r.stages r.dual r.units made))
LeadsTo budget there (Err (TooWide made w)) = there ≡ Ended (RunWide made w)
LeadsTo budget there (Err (Budget n)) = (there ≡ Ended RunBudget) × (n ≡ budget)
LeadsTo budget there (Err (TooLarge vars clauses)) = ⊥
LeadsTo budget there (Err MemoryOut) = ⊤
