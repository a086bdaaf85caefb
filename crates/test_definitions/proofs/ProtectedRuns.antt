-- Sets of protected variables, crossed formulas, and the pure and the linear run under such a set.
use Rattle.std.specs.Prelude.{◌≡◌, refl, ℕ, true, false, List, [], ◌∷◌, map, pos, negsuc, Some, None}
use Rattle.lk_model.specs.Formulas.Formula.{Cnf}
use Rattle.lk_model.specs.Formulas.Crossed.{Variables, formula_without, protected_by, protected_of, protect_line_of}
use Rattle.lk_model.specs.Formulas.PureRun.{IsPureRunUnder, least_pairs_under}
use Rattle.lk_model.specs.Linear.Arithmetic.{gcd, first_wide}
use Rattle.lk_model.specs.Linear.Rows.{start_row, start_cost, start_of}
use Rattle.lk_model.specs.Linear.Pivot.{combined, made_in_row, pivoted, made_in_pivot}
use Rattle.lk_model.specs.Linear.Phases.{next, stage_of, made_in_stage, unweighted}
use Rattle.lk_model.specs.Linear.Ends.{dual_at_end, units_at_end, made_in_dual, made_in_units}
use Rattle.lk_model.specs.Linear.LinearRun.{RunDone, RunBudget, run_from, moved, linear_run, linear_run_under, is_too_large_under, LinearEnd}
use Rattle.lk_model.specs.Reduction.{IsStatedBody}
use Rattle.test_definitions.proofs.WorkedDocuments.{equivalence, four_signs, cycle, duals_of_one}
use Rattle.test_definitions.proofs.ProtectedDocuments.{all_pairs, all_kept, one_unit, one_linear}

-- SETS AND FORMULAS

-- the listed variables of the formula, each once, ascending
listed : protected_of equivalence (3 ∷ 2 ∷ 3 ∷ 9 ∷ []) ≡ 2 ∷ 3 ∷ []
listed = refl

protect_lines : map (protect_line_of equivalence) (None ∷ Some (9 ∷ []) ∷ Some (3 ∷ 2 ∷ 3 ∷ []) ∷ []) ≡ None ∷ Some [] ∷ Some (2 ∷ 3 ∷ []) ∷ []
protect_lines = refl

two_and_three : map (protected_by (Some (2 ∷ 3 ∷ []))) (1 ∷ 2 ∷ 3 ∷ 4 ∷ []) ≡ false ∷ true ∷ true ∷ false ∷ []
two_and_three = refl

abbrev one : Variables
one = protected_by (Some (1 ∷ []))

abbrev two : Variables
two = protected_by (Some (2 ∷ []))

without_one : formula_without equivalence one ≡ record { vars = 3; clauses = (pos 2 ∷ []) ∷ (negsuc 1 ∷ pos 3 ∷ []) ∷ (pos 2 ∷ negsuc 2 ∷ []) ∷ [] }
without_one = refl

-- a clause may lose all its literals
without_all : formula_without four_signs (protected_by (Some (1 ∷ 2 ∷ []))) ≡ record { vars = 2; clauses = [] ∷ [] ∷ [] ∷ [] ∷ [] }
without_all = refl

-- RUNS

-- nothing is taken, since the only pure variable is protected; the pairs are those of the other two
pure_run : IsPureRunUnder one equivalence []
pure_run = refl

pairs_of_kept : least_pairs_under one equivalence (1 ∷ 2 ∷ 3 ∷ []) ≡ all_pairs
pairs_of_kept = refl

-- with 2 protected the run takes 1, after which 3 has both signs, and so keeps what the unprotected run keeps
run_beside_two : IsPureRunUnder two equivalence (pos 1 ∷ [])
run_beside_two = (refl, refl)

pure_stated : IsStatedBody one equivalence 0 all_kept.kept all_kept.body
pure_stated = (refl, refl)

-- formulas, the protected variable, which may be none of the formula's, how many pivots may be made, and how the run ends
abbrev Run : Type 0
Run = Cnf × ℕ × ℕ × LinearEnd

runs : List Run
runs = (four_signs, 2, 5, RunDone (1 ∷ 2 ∷ 3 ∷ 4 ∷ []) [] duals_of_one one_unit 1)
    ∷ (four_signs, 2, 0, RunBudget)
    ∷ (cycle, 9, 2, RunDone [] (record { weights = record { var = 1; x = pos 1 } ∷ record { var = 2; x = pos 1 } ∷ record { var = 3; x = pos 1 } ∷ [] } ∷ []) [] [] 2) ∷ []

ends : map (λ (F, v, pivots, end). linear_run_under (protected_by (Some (v ∷ []))) F pivots) runs ≡ map (λ (F, v, pivots, end). end) runs
unfolding runs linear_run run_from moved gcd first_wide start_row start_cost start_of combined made_in_row pivoted made_in_pivot next stage_of made_in_stage unweighted dual_at_end units_at_end made_in_dual made_in_units
ends = refl

linear_stated : IsStatedBody two four_signs 5 one_linear.kept one_linear.body
unfolding linear_run run_from moved gcd first_wide start_row start_cost start_of combined made_in_row pivoted made_in_pivot next stage_of made_in_stage unweighted dual_at_end units_at_end made_in_dual made_in_units
linear_stated = (1, refl)

small_enough : is_too_large_under two four_signs ≡ false
small_enough = refl
