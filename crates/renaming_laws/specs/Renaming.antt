-- A part of a formula under variables and positions numbered anew from 1, and what is found there stated in the numbers
-- of the formula.
use Rattle.std.specs.Prelude.{◌≡◌, ℕ, ◌+◌, ◌-◌, ◌^◌, ◌<◌, List, map, length, slice_index_or, if◌then◌else◌, nat_le, ℤ, IsTrue}
use Rattle.lk_model.specs.Lists.{rises_within}
use Rattle.lk_model.specs.Formulas.Literal.{variable, is_positive, literal_of}
use Rattle.lk_model.specs.Formulas.Formula.{Cnf, is_formula, positions_of, clauses_at}
use Rattle.lk_model.specs.Formulas.Lean.{are_positions}
use Rattle.lk_model.specs.Formulas.Crossed.{no_variable}
use Rattle.lk_model.specs.Documents.Documents.{steps_of}
use Rattle.lk_model.specs.Documents.Form.{are_steps}
use Rattle.lk_model.specs.Checks.RoundChecks.{learned_steps, IsRefutation}
use Rattle.lk_model.specs.Chains.Rounds.{AreNeeded}
use Rattle.lk_model.specs.declared.document.Turn.{Turn}
use Rattle.lk_model.specs.declared.document.Step.{Step}
use Rattle.lk_model.specs.declared.document.Round.{Round}
use Rattle.lk_model.specs.declared.result.GeneralResult.{GeneralResult}
use Rattle.general_laws.specs.Found.{IsDone, IsUnfinished}

-- what stands at a place that counts from 1
abbrev pub nth : List ℕ → ℕ → ℕ
nth ns k = slice_index_or ns (k - 1) 0

-- a number renamed by that list, past which it stays
abbrev pub name_of : List ℕ → ℕ → ℕ
name_of ns k = slice_index_or ns (k - 1) k

-- the literal on the variable of that name
abbrev pub named : List ℕ → ℤ → ℤ
named names l = literal_of (name_of names (variable l)) (is_positive l)

-- G has the clauses of F at the positions of the part, in their order, under the numbers of these names, which ascend
pub record IsDense (F : Cnf) (part names : List ℕ) (G : Cnf) : Type 0 where
  pub ascend : IsTrue (rises_within 0 F.vars names)
  pub vars : G.vars ≡ length names
  pub formula : IsTrue (is_formula G)
  pub clauses : map (map (named names)) G.clauses ≡ (clauses_at F part).clauses

-- A number in a chain over `positions` positions: a position is renamed by the part, and steps, which come after them,
-- count on from `last`.
abbrev pub number_after : ℕ → ℕ → List ℕ → ℕ → ℕ
number_after positions last part k = if nat_le k positions then name_of part k else (k - positions + last)

-- turns, steps and rounds with other literals and by other numbers
abbrev pub turn_under : (ℤ → ℤ) → (ℕ → ℕ) → Turn → Turn
turn_under g f t = record { lit = g t.lit; with = f t.with }

abbrev pub step_under : (ℤ → ℤ) → (ℕ → ℕ) → Step → Step
step_under g f s = record { number = f s.number; clause = map g s.clause; first = f s.first; turns = map (turn_under g f) s.turns }

abbrev pub round_under : (ℤ → ℤ) → (ℕ → ℕ) → Round → Round
round_under g f r = record { steps = map (step_under g f) r.steps }

-- a number in a chain over all of a part, renamed for a formula of m clauses
abbrev pub number_in_whole : List ℕ → ℕ → ℕ → ℕ
number_in_whole part m = number_after (length part) m part

abbrev pub renamed_round : ℕ → List ℕ → List ℕ → Round → Round
renamed_round m part names = round_under (named names) (number_in_whole part m)

abbrev pub renamed_result : ℕ → List ℕ → List ℕ → GeneralResult → GeneralResult
renamed_result m part names r = record {
  kept = map (nth part) r.kept;
  set = map (named names) r.set;
  rounds = map (renamed_round m part names) r.rounds;
}

-- What is found in all of G is, translated to the numbers of F, what is found in the part. The numbers of the steps
-- have 64 bits. The same is true of a refutation of some clauses of G, of rounds of which nothing is needless, and of
-- the number of learned clauses.
pub record RenamingLaw : Type 0 where
  pub done : (F G : Cnf) (part names : List ℕ) (conflicts : ℕ) (r : GeneralResult) → IsTrue (is_formula F) → IsTrue (are_positions F part)
      → IsDense F part names G → length F.clauses + length (steps_of r.rounds) < 2 ^ 64
      → IsDone G (positions_of G) conflicts r → IsDone F part conflicts (renamed_result (length F.clauses) part names r)
  pub unfinished : (F G : Cnf) (part names : List ℕ) (conflicts : ℕ) (rounds : List Round) → IsTrue (is_formula F) → IsTrue (are_positions F part)
      → IsDense F part names G → length F.clauses + length (steps_of rounds) < 2 ^ 64
      → IsUnfinished G (positions_of G) conflicts rounds → IsUnfinished F part conflicts (map (renamed_round (length F.clauses) part names) rounds)
  pub refuted : (F G : Cnf) (part names places : List ℕ) (r : Round) → IsTrue (are_positions F part)
      → IsDense F part names G → IsTrue (are_positions G places) → length F.clauses + length r.steps < 2 ^ 64
      → IsRefutation G places r → IsRefutation F (map (nth part) places) (renamed_round (length F.clauses) part names r)
  pub needed : (F G : Cnf) (part names : List ℕ) (rounds : List Round) → IsTrue (are_positions F part)
      → IsDense F part names G → IsTrue (are_steps G.vars (length G.clauses) (steps_of rounds))
      → AreNeeded G no_variable rounds → AreNeeded F no_variable (map (renamed_round (length F.clauses) part names) rounds)
  pub learned : (F G : Cnf) (part names : List ℕ) (rounds : List Round) → IsDense F part names G
      → IsTrue (are_steps G.vars (length G.clauses) (steps_of rounds))
      → length (learned_steps (map (renamed_round (length F.clauses) part names) rounds)) ≡ length (learned_steps rounds)
