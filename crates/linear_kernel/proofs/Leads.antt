-- Where the calls of a run lead.
use Rattle.std.proofs.Common.{◌≡◌, ◌≢◌, ℕ, Bool, true, false, List, ◌++◌, ◌==◌, refl, sym, ap, ◌∙◌, Option, Ok, Err}
use Rattle.std.specs.Option.{option_or, option_map_or}
use Rattle.std.proofs.lemmas.Bool.{eq-eqb, eqb-true}
use Rattle.lk_model.specs.Formulas.Formula.{Cnf}
use Rattle.lk_model.specs.Linear.Arithmetic.{first_wide}
use Rattle.lk_model.specs.Linear.Rows.{TableauRows}
use Rattle.lk_model.specs.Linear.Phases.{NextMove, PivotOn, StageStands, EndsLean, next}
use Rattle.lk_model.specs.Linear.Ends.{dual_at_end, units_at_end, made_in_dual, made_in_units}
use Rattle.lk_model.specs.Linear.LinearRun.{RunDone, RunWide, RunBudget, Moment, Moved, Ended, after_pivot, after_stage, at_end, moved}
use Rattle.lk_model.specs.declared.wide.Wide.{Wide}
use Rattle.lk_model.specs.declared.document.Dual.{Dual}
use Rattle.lk_model.specs.declared.document.Unit.{Unit}
use Rattle.exact_rows.proofs.Wides.{first_wide-append}
use Rattle.linear_kernel.specs.declared.stop.LinearStop.{LinearStop}
use Rattle.linear_kernel.specs.declared.stop.LinearStop.TheVariants.{TooLarge, TooWide, Budget, OutOfMemory}
use Rattle.linear_kernel.specs.Moves.{GivesAfter, LeadsOn, LeadsOut, LeadsTo}

-- BY WHAT COMES NEXT

module _ (F : Cnf) (budget : ℕ) (m : Moment) where
  abbrev within_budget : ℕ → ℕ → Bool → Moved
  within_budget i k b = elim b as (λ b. Moved) [ true ↦ Ended RunBudget | false ↦ after_pivot m i k ]

  abbrev moved_by : NextMove → Moved
  moved_by x = elim x as (λ x. Moved) [ PivotOn i k ↦ within_budget i k (m.pivots == budget) | StageStands ↦ after_stage F m | EndsLean ↦ at_end m ]

  -- a pivot that is not left
  pub by_budget : (i k : ℕ) → next m.rows ≡ PivotOn i k → m.pivots ≡ budget → moved F budget m ≡ Ended RunBudget
  unfolding moved
  by_budget i k e h = ap moved_by e ∙ ap (within_budget i k) (eq-eqb m.pivots budget h)

  -- a pivot
  pub by_pivot : (i k : ℕ) → next m.rows ≡ PivotOn i k → m.pivots ≢ budget → moved F budget m ≡ after_pivot m i k
  unfolding moved
  by_pivot i k e h = ap moved_by e ∙ by_test (m.pivots == budget) refl
    where
      by_test : (b : Bool) → (m.pivots == budget) ≡ b → within_budget i k b ≡ after_pivot m i k
      by_test true t = absurd (h (eqb-true m.pivots budget t))
      by_test false t = refl

  -- a stage
  pub by_stage : next m.rows ≡ StageStands → moved F budget m ≡ after_stage F m
  unfolding moved
  by_stage e = ap moved_by e

  -- the end
  pub by_end : next m.rows ≡ EndsLean → moved F budget m ≡ at_end m
  unfolding moved
  by_end e = ap moved_by e

-- STOPS

-- a move that stops for another reason than the budget
pub stops_on : (budget : ℕ) (here there : Moved) (e : LinearStop) → here ≡ there → LeadsOn there (Err e) → LeadsTo budget here (Err e)
stops_on budget here there (TooLarge vars clauses) same h = absurd h
stops_on budget here there (TooWide made w) same h = same ∙ h
stops_on budget here there (Budget n) same h = absurd h
stops_on budget here there OutOfMemory same h = tt

pub stops_out : (budget made : ℕ) (here there : Moved) (e : LinearStop) → here ≡ there → LeadsOut made there (Err e) → LeadsTo budget here (Err e)
stops_out budget made here there (TooLarge vars clauses) same h = absurd h
stops_out budget made here there (TooWide n w) same h = same ∙ h
stops_out budget made here there (Budget n) same h = absurd h
stops_out budget made here there OutOfMemory same h = tt

-- THE END

abbrev both_at : TableauRows → List Dual × List Unit
both_at t = (dual_at_end t, units_at_end t)

abbrev made_in_both : TableauRows → List Wide
made_in_both t = made_in_dual t ++ made_in_units t

-- a dual stops the call of both
pub both_dual : (made : ℕ) (t : TableauRows) (e : LinearStop) → GivesAfter made (made_in_dual t) (dual_at_end t) (Err e)
    → GivesAfter made (made_in_both t) (both_at t) (Err e)
both_dual made t (TooLarge vars clauses) h = absurd h
both_dual made t (TooWide n w) h =
    (h.0, first_wide-append (made_in_dual t) (made_in_units t) ∙ ap (λ o. option_or o (first_wide (made_in_units t))) h.1)
both_dual made t (Budget n) h = absurd h
both_dual made t OutOfMemory h = tt

-- a unit does
pub both_units : (made : ℕ) (t : TableauRows) (dual : List Dual) (e : LinearStop) → GivesAfter made (made_in_dual t) (dual_at_end t) (Ok dual)
    → GivesAfter made (made_in_units t) (units_at_end t) (Err e) → GivesAfter made (made_in_both t) (both_at t) (Err e)
both_units made t dual (TooLarge vars clauses) g h = absurd h
both_units made t dual (TooWide n w) g h = (h.0, first_wide-append (made_in_dual t) (made_in_units t) ∙ (λ i. option_or (g.0 i) (h.1 i)))
both_units made t dual (Budget n) g h = absurd h
both_units made t dual OutOfMemory g h = tt

-- nothing does
pub both_ok : (made : ℕ) (t : TableauRows) (dual : List Dual) (units : List Unit) → GivesAfter made (made_in_dual t) (dual_at_end t) (Ok dual)
    → GivesAfter made (made_in_units t) (units_at_end t) (Ok units) → GivesAfter made (made_in_both t) (both_at t) (Ok (dual, units))
both_ok made t dual units g h = (first_wide-append (made_in_dual t) (made_in_units t) ∙ (λ i. option_or (g.0 i) (h.0 i)), λ i. (g.1 i, h.1 i))

-- by the first result that is too wide
abbrev ends_by : (m : Moment) → Option Wide → Moved
ends_by m o = option_map_or (λ w. Ended (RunWide m.pivots w)) o (Ended (RunDone m.rows.positions m.stages (dual_at_end m.rows) (units_at_end m.rows) m.pivots))

-- the run stops with that call
pub out_stops : (m : Moment) (e : LinearStop) → GivesAfter m.pivots (made_in_both m.rows) (both_at m.rows) (Err e)
    → LeadsOut m.pivots (at_end m) (Err e)
out_stops m (TooLarge vars clauses) h = absurd h
out_stops m (TooWide n w) h = ap (ends_by m) h.1 ∙ (λ i. Ended (RunWide (sym h.0 i) w))
out_stops m (Budget n) h = absurd h
out_stops m OutOfMemory h = tt

-- it ends with what that call gives
pub out_ok : (m : Moment) (kept : List ℕ) (both : List Dual × List Unit) → kept ≡ m.rows.positions
    → GivesAfter m.pivots (made_in_both m.rows) (both_at m.rows) (Ok both)
    → at_end m ≡ Ended (RunDone kept m.stages both.0 both.1 m.pivots)
out_ok m kept both same h = ap (ends_by m) h.0 ∙ (λ i. Ended (RunDone (sym same i) m.stages (sym h.1 i).0 (sym h.1 i).1 m.pivots))
