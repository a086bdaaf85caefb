-- What is answered where a move ends the run.
use Rattle.std.proofs.Common.{◌≡◌, ℕ, ◌+◌, ◌*◌, ◌^◌, ◌≤◌, Bool, false, nat_lt, List, length, sym, ◌∙◌, arith, Ok, Err}
use Rattle.std.proofs.lemmas.List.FromFn.{length-range_with_len}
use Rattle.lk_model.specs.Limits.{max_vars}
use Rattle.lk_model.specs.Formulas.Formula.{Cnf, occurring_count, variable_occurs, variables_at, variables_to}
use Rattle.lk_model.specs.Linear.LinearRun.{RunDone, RunWide, RunBudget, Moment, moved, is_too_large}
use Rattle.lk_model.specs.declared.result.LinearResult.{LinearResult}
use Rattle.lk_model.proofs.Lists.{filter_length}
use Rattle.linear_kernel.specs.declared.stop.LinearStop.{LinearStop}
use Rattle.linear_kernel.specs.declared.stop.LinearStop.TheVariants.{TooLarge, TooWide, Budget, OutOfMemory}
use Rattle.linear_kernel.specs.declared.run.Progress.TheVariants.{Done}
use Rattle.linear_kernel.specs.Answers.{AnswersRun}
use Rattle.linear_kernel.specs.Moves.{LeadsTo}
use Rattle.linear_kernel.proofs.Moments.{GoesOn, ends_as}

-- the variables that occur are within the limit
pub few_occur : (F : Cnf) (S : List ℕ) → F.vars ≤ max_vars → length (variables_at F S) ≤ max_vars
few_occur F S most = omega (arith, most, filter_length (variable_occurs F S) (variables_to F.vars), length-range_with_len 1 F.vars)

-- a size that is not too large
pub is_small : (F : Cnf) (vars clauses : ℕ) (b : Bool) → vars ≡ occurring_count F → clauses ≡ length F.clauses → b ≡ nat_lt (2 ^ 24) ((vars + 1) * (clauses + vars + 2)) → b ≡ false
    → is_too_large F ≡ false
is_small F vars clauses b v c e f = (λ i. nat_lt (2 ^ 24) ((sym v i + 1) * (sym c i + sym v i + 2))) ∙ sym e ∙ f

module _ (F : Cnf) (budget : ℕ) (m : Moment) (small : is_too_large F ≡ false) (g : GoesOn F budget m) where
  -- a stop
  pub answers_stop : (e : LinearStop) → LeadsTo budget (moved F budget m) (Err e) → AnswersRun F budget (Err e)
  answers_stop (TooLarge vars clauses) h = absurd h
  answers_stop (TooWide made w) h = (small, ends_as F budget m (RunWide made w) g h)
  answers_stop (Budget n) h = (small, ends_as F budget m RunBudget g h.0, h.1)
  answers_stop OutOfMemory h = tt

  -- a result
  pub answers_done : (r : LinearResult) → LeadsTo budget (moved F budget m) (Ok (Done r)) → AnswersRun F budget (Ok r)
  answers_done r h = (small, (h.0, ends_as F budget m (RunDone r.kept r.stages r.dual r.units h.0) g h.1))
