-- How many moves a run may still make.
use Rattle.std.specs.Prelude.{◌≡◌, ℕ, ◌+◌, ◌-◌, ◌<◌, ◌≤◌, List, [], length}
use Rattle.lk_model.specs.Formulas.Formula.{Cnf, positions_of}
use Rattle.lk_model.specs.Linear.Rows.{m_of, start_of}
use Rattle.lk_model.specs.Linear.LinearRun.{Moment, Later, Ended, moved, run_from, linear_run}
use Rattle.exact_pivot.specs.Reached.{IsReached}

-- the pivots that are left, the clauses, and the end
abbrev pub room : ℕ → Moment → ℕ
room budget m = budget - m.pivots + m_of m.rows + 1

-- the rows are reached for some positions, and the moment counts no more pivots than stated
pub record IsWithin (F : Cnf) (budget : ℕ) (m : Moment) : Type 0 where
  pub at : List ℕ
  pub reached : IsReached F at m.rows
  pub pivots : m.pivots ≤ budget

-- the moment before the first move
abbrev pub first_moment : Cnf → Moment
first_moment F = record { pivots = 0; stages = []; rows = start_of F (positions_of F) }

-- the moments that a run passes
pub data IsPassed (F : Cnf) (budget : ℕ) : Moment → Type 0 where
  AtFirst : IsPassed F budget (first_moment F)
  ByMove : (m later : Moment) → IsPassed F budget m → moved F budget m ≡ Later later → IsPassed F budget later

-- A move that leads on leaves less room, so a run with as many moves as there is room for ends as one with more. The linear
-- run of a formula has as many: its end is where a move from one of its moments leads, and moves never run out.
pub record MovesLaw : Type 0 where
  pub within : (F : Cnf) (budget : ℕ) (m later : Moment) → IsWithin F budget m → moved F budget m ≡ Later later → IsWithin F budget later
  pub less : (F : Cnf) (budget : ℕ) (m later : Moment) → IsWithin F budget m → moved F budget m ≡ Later later → room budget later < room budget m
  pub enough : (F : Cnf) (budget moves : ℕ) (m : Moment) → IsWithin F budget m → room budget m ≤ moves
      → run_from moves F budget m ≡ run_from (room budget m) F budget m
  pub never_wants : (F : Cnf) (budget moves : ℕ) → budget + length F.clauses + 1 ≤ moves → run_from moves F budget (first_moment F) ≡ linear_run F budget
  pub ends : (F : Cnf) (budget : ℕ) → (m : Moment) × IsPassed F budget m × (moved F budget m ≡ Ended (linear_run F budget))
