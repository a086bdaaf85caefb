-- Clauses that are learned where a clause is false, and what a solver holds.
use Rattle.std.specs.Prelude.{◌≡◌, ◌≢◌, ℕ, ◌<◌, Bool, false, ◌==◌, nat_le, is_some, List, ◌∷◌, ◌++◌, map, ℤ, IsTrue}
use Rattle.std.specs.List.{list_all}
use Rattle.std.specs.Option.{option_map_or}
use Rattle.lk_model.specs.Formulas.Literal.{variable, contains}
use Rattle.lk_model.specs.declared.crossed.Crossed.{Crossed}
use Rattle.lk_model.specs.declared.document.Step.{Step}
use Rattle.lk_model.specs.declared.document.Turn.{Turn}
use Rattle.watch_prop.specs.declared.entry.Entry.{Entry}
use Rattle.watch_prop.specs.declared.entry.NumberedClause.{NumberedClause}
use Rattle.watch_prop.specs.Trail.{false_in, assignment_along, level_of, present_level, up_to_level, clause_numbered}
use Rattle.watch_prop.specs.Propagation.{Propagation, is_quiet, crossed_clauses}

-- the variable of the literal was set at the level
abbrev pub stands_at : List Entry → ℕ → ℤ → Bool
stands_at trail level l = option_map_or (λ k. k == level) (level_of trail (variable l)) false

-- the variable of the literal was set at the level or at a lower one
abbrev pub stands_up_to : List Entry → ℕ → ℤ → Bool
stands_up_to trail level l = option_map_or (λ k. nat_le k level) (level_of trail (variable l)) false

-- each literal is the complement of one of the trail
abbrev pub are_false_in : List Entry → List ℤ → Bool
are_false_in trail c = list_all (false_in trail) c

-- Under the trail up to each level below the present one no clause is false, and none without a true literal has just one
-- unset literal.
pub record IsQuietBelow (p : Propagation) : Type 0 where
  pub quiet : (level : ℕ) → level < present_level p.trail → IsTrue (is_quiet (assignment_along (up_to_level level p.trail)) p.clauses)

-- A clause that is false under the trail, with just one literal of the present level, and the highest level among the others,
-- 0 if there is none.
pub record IsLearnedFor (trail : List Entry) (c : List ℤ) (u : ℤ) (level : ℕ) : Type 0 where
  pub falsified : IsTrue (are_false_in trail c)
  pub there : IsTrue (contains c u)
  pub present : IsTrue (stands_at trail (present_level trail) u)
  pub below : level < present_level trail
  pub others : (k : ℤ) → IsTrue (contains c k) → k ≢ u → IsTrue (stands_up_to trail level k)
  pub reached : 0 < level → (k : ℤ) × IsTrue (contains c k) × IsTrue (stands_at trail level k)

-- the clause of a step, under the step's number
abbrev pub held_step : Step → NumberedClause
held_step s = record { number = s.number; lits = s.clause }

-- the propagator holds the non-empty crossed clauses and those of the steps
abbrev pub HoldsAll : Crossed → List Step → Propagation → Type 0
HoldsAll over steps p = p.clauses ≡ crossed_clauses over ++ map held_step steps

-- each number that a chain names is that of a clause that is held
abbrev pub names_held : Propagation → ℕ → List Turn → Bool
names_held p first turns = list_all (λ k. is_some (clause_numbered p.clauses k)) (first ∷ map (λ (t : Turn). t.with) turns)
