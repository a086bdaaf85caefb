-- The linear run of a formula with a stated number of pivots.
use Rattle.std.specs.Prelude.{ℕ, zero, suc, ◌+◌, ◌*◌, ◌^◌, Bool, true, false, ◌==◌, nat_lt, List, [], ◌∷◌, ◌++◌, length}
use Rattle.std.specs.Option.{option_map_or}
use Rattle.lk_model.specs.Formulas.Formula.{Cnf, positions_of, occurring_count}
use Rattle.lk_model.specs.Formulas.Crossed.{Variables, formula_without}
use Rattle.lk_model.specs.Linear.Arithmetic.{first_wide}
use Rattle.lk_model.specs.Linear.Rows.{TableauRows, start_of}
use Rattle.lk_model.specs.Linear.Pivot.{pivoted, made_in_pivot}
use Rattle.lk_model.specs.Linear.Phases.{PivotOn, StageStands, EndsLean, next, stage_of, made_in_stage, unweighted}
use Rattle.lk_model.specs.Linear.Ends.{dual_at_end, units_at_end, made_in_dual, made_in_units}
use Rattle.lk_model.specs.declared.wide.Wide.{Wide}
use Rattle.lk_model.specs.declared.document.Stage.{Stage}
use Rattle.lk_model.specs.declared.document.Dual.{Dual}
use Rattle.lk_model.specs.declared.document.Unit.{Unit}

-- How a run ends: done, with what it keeps, its stages, duals and units, and the number of pivots made; too wide, after
-- a number of pivots; or it wants one more pivot than it may make.
pub data LinearEnd : Type 0 where
  RunDone : List ℕ → List Stage → List Dual → List Unit → ℕ → LinearEnd
  RunWide : ℕ → Wide → LinearEnd
  RunBudget : LinearEnd

-- a moment of a run: the pivots made so far, the stages so far, and the rows
pub record Moment : Type 0 where
  pub pivots : ℕ
  pub stages : List Stage
  pub rows : TableauRows

-- where a move leads
pub data Moved : Type 0 where
  Later : Moment → Moved
  Ended : LinearEnd → Moved

-- where a move leads that makes these results: `there`, if none of them is too wide
abbrev pub unless_wide : List Wide → ℕ → Moved → Moved
unless_wide results pivots there = option_map_or (λ w. Ended (RunWide pivots w)) (first_wide results) there

abbrev pub after_pivot : Moment → ℕ → ℕ → Moved
after_pivot m i k = unless_wide (made_in_pivot m.rows i k) m.pivots (Later (record m { pivots = m.pivots + 1; rows = pivoted m.rows i k }))

-- the stage takes its clauses out, and the run goes on with the rows for the others
abbrev pub after_stage : Cnf → Moment → Moved
after_stage F m = let stage = stage_of m.rows in unless_wide (made_in_stage m.rows) m.pivots
    (Later (record m { stages = m.stages ++ stage ∷ []; rows = start_of F (unweighted F stage m.rows.positions) }))

abbrev pub at_end : Moment → Moved
at_end m = let t = m.rows in unless_wide (made_in_dual t ++ made_in_units t) m.pivots
    (Ended (RunDone t.positions m.stages (dual_at_end t) (units_at_end t) m.pivots))

-- one move of a run that may make `budget` pivots
unfoldable pub moved : Cnf → ℕ → Moment → Moved
moved F budget m = elim (next m.rows) [
  | PivotOn i k ↦ elim (m.pivots == budget) [ true ↦ Ended RunBudget | false ↦ after_pivot m i k ]
  | StageStands ↦ after_stage F m
  | EndsLean ↦ at_end m
]

-- the end that this number of moves reaches
unfoldable pub run_from : ℕ → Cnf → ℕ → Moment → LinearEnd
run_from zero F budget m = RunBudget
run_from (suc moves) F budget m = elim (moved F budget m) [ Later m ↦ run_from moves F budget m | Ended end ↦ end ]

-- A move is a pivot, of which there are no more than stated, or a stage, which takes a clause out, or the end. So these
-- moves are enough.
unfoldable pub linear_run : Cnf → ℕ → LinearEnd
linear_run F budget = run_from (budget + length F.clauses + 1) F budget (record { pivots = 0; stages = []; rows = start_of F (positions_of F) })

-- the rows would have more than 2^24 entries
abbrev pub is_too_large : Cnf → Bool
is_too_large F = let r = occurring_count F in nat_lt (2 ^ 24) ((r + 1) * (length F.clauses + r + 2))

-- UNDER A SET P OF PROTECTED VARIABLES

-- the run on the formula without the literals on variables of P
abbrev pub linear_run_under : Variables → Cnf → ℕ → LinearEnd
linear_run_under P F budget = linear_run (formula_without F P) budget

-- the rows for the formula without the literals on variables of P would have more than 2^24 entries
abbrev pub is_too_large_under : Variables → Cnf → Bool
is_too_large_under P F = is_too_large (formula_without F P)
