-- The linear run of worked formulas.
use Rattle.std.specs.Prelude.{◌≡◌, refl, ℕ, ℤ, List, [], ◌∷◌, map, pos, negsuc}
use Rattle.lk_model.specs.Formulas.Formula.{Cnf}
use Rattle.lk_model.specs.Linear.Arithmetic.{gcd, first_wide}
use Rattle.lk_model.specs.Linear.Rows.{start_row, start_cost, start_of}
use Rattle.lk_model.specs.Linear.Pivot.{combined, made_in_row, pivoted, made_in_pivot}
use Rattle.lk_model.specs.Linear.Phases.{next, stage_of, made_in_stage, unweighted}
use Rattle.lk_model.specs.Linear.Ends.{dual_at_end, units_at_end, made_in_dual, made_in_units}
use Rattle.lk_model.specs.Linear.LinearRun.{RunDone, RunBudget, run_from, moved, linear_run, LinearEnd}
use Rattle.lk_model.specs.Documents.Documents.{weighting_of}
use Rattle.lk_model.specs.declared.document.Dual.{Dual}
use Rattle.test_definitions.proofs.WorkedDocuments.{four_signs, cycle, unit_twice, two_stages, unbalanced_units, duals_of_one, two_units}

abbrev no_clauses : Cnf
no_clauses = record { vars = 0; clauses = [] }

abbrev empty_clause : Cnf
empty_clause = record { vars = 1; clauses = [] ∷ [] }

abbrev tautology : Cnf
tautology = record { vars = 1; clauses = (pos 1 ∷ negsuc 0 ∷ []) ∷ [] }

abbrev one_dual : List Dual
one_dual = record { pos = 1; y = pos 1 } ∷ []

-- formulas, how many pivots may be made, and how the run ends
abbrev Run : Type 0
Run = Cnf × ℕ × LinearEnd

runs : List Run
runs = (no_clauses, 5, RunDone [] [] [] [] 0)
    ∷ (empty_clause, 5, RunDone (1 ∷ []) [] one_dual [] 0)
    ∷ (tautology, 0, RunDone [] (record { weights = record { var = 1; x = pos 1 } ∷ [] } ∷ []) [] [] 0)
    ∷ (unit_twice, 0, RunDone [] (record { weights = record { var = 1; x = pos 1 } ∷ [] } ∷ []) [] [] 0)
    ∷ (four_signs, 100000, RunDone (1 ∷ 2 ∷ 3 ∷ 4 ∷ []) [] duals_of_one two_units 2)
    ∷ (cycle, 2, RunDone [] (record { weights = record { var = 1; x = pos 1 } ∷ record { var = 2; x = pos 1 } ∷ record { var = 3; x = pos 1 } ∷ [] } ∷ []) [] [] 2)
    ∷ (cycle, 1, RunBudget)
    ∷ (two_stages, 1, RunDone [] (record { weights = record { var = 1; x = pos 1 } ∷ record { var = 2; x = pos 1 } ∷ [] } ∷ record { weights = record { var = 3; x = pos 1 } ∷ [] } ∷ []) [] [] 1)
    ∷ (two_stages, 0, RunBudget)
    ∷ (unbalanced_units, 7, RunDone (1 ∷ 2 ∷ 3 ∷ []) [] (record { pos = 1; y = pos 1 } ∷ record { pos = 2; y = pos 1 } ∷ record { pos = 3; y = pos 2 } ∷ []) (record { var = 1; d = pos 1; shares = record { pos = 3; z = negsuc 0 } ∷ [] } ∷ []) 1) ∷ []

ends : map (λ (F, pivots, end). linear_run F pivots) runs ≡ map (λ (F, pivots, end). end) runs
unfolding runs linear_run run_from moved gcd first_wide start_row start_cost start_of combined made_in_row pivoted made_in_pivot next stage_of made_in_stage unweighted dual_at_end units_at_end made_in_dual made_in_units
ends = refl

-- A LONGER RUN

-- a chain of clauses whose weights grow along it
abbrev chain : Cnf
chain = record {
  vars = 10;
  clauses = (pos 3 ∷ negsuc 1 ∷ negsuc 0 ∷ []) ∷ (negsuc 2 ∷ pos 2 ∷ pos 1 ∷ []) ∷ (pos 4 ∷ negsuc 2 ∷ negsuc 1 ∷ []) ∷ (negsuc 3 ∷ pos 3 ∷ pos 2 ∷ [])
      ∷ (pos 5 ∷ negsuc 3 ∷ negsuc 2 ∷ []) ∷ (negsuc 4 ∷ pos 4 ∷ pos 3 ∷ []) ∷ (pos 6 ∷ negsuc 4 ∷ negsuc 3 ∷ []) ∷ (negsuc 5 ∷ pos 5 ∷ pos 4 ∷ [])
      ∷ (pos 7 ∷ negsuc 5 ∷ negsuc 4 ∷ []) ∷ (negsuc 6 ∷ pos 6 ∷ pos 5 ∷ []) ∷ (pos 8 ∷ negsuc 6 ∷ negsuc 5 ∷ []) ∷ (negsuc 7 ∷ pos 7 ∷ pos 6 ∷ [])
      ∷ (pos 9 ∷ negsuc 7 ∷ negsuc 6 ∷ []) ∷ (negsuc 8 ∷ pos 8 ∷ pos 7 ∷ []) ∷ (pos 10 ∷ negsuc 8 ∷ negsuc 7 ∷ []) ∷ (negsuc 9 ∷ pos 9 ∷ pos 8 ∷ []) ∷ [];
}

-- the pivots, and the weights of the first stage on the variables 1 and 2
abbrev facts_of : LinearEnd → ℕ × ℤ × ℤ
facts_of (RunDone kept (s ∷ stages) dual units count) = (count, weighting_of s 1, weighting_of s 2)
facts_of _ = (0, pos 0, pos 0)

chain_runs : facts_of (linear_run chain 10) ≡ (8, pos 34, negsuc 20)
unfolding linear_run run_from moved gcd first_wide start_row start_cost start_of combined made_in_row pivoted made_in_pivot next stage_of made_in_stage unweighted dual_at_end units_at_end made_in_dual made_in_units
chain_runs = refl
