-- Single steps: of arithmetic, of the linear run, of a refutation, and of extending a model.
use Rattle.std.specs.Prelude.{◌≡◌, refl, ℕ, pos, negsuc, neg_ℤ, true, List, [], ◌∷◌, Some, None}
use Rattle.lk_model.specs.Formulas.Formula.{positions_of}
use Rattle.lk_model.specs.Formulas.Assignment.{assignment_of}
use Rattle.lk_model.specs.Formulas.Crossed.{no_variable}
use Rattle.lk_model.specs.Linear.Arithmetic.{gcd, gcd_of, primitive, first_wide, made}
use Rattle.lk_model.specs.Linear.Rows.{TableauRows, start_of, start_row, start_cost}
use Rattle.lk_model.specs.Linear.Pivot.{combined, made_in_row, pivoted}
use Rattle.lk_model.specs.Linear.Phases.{next, PivotOn, StageStands, EndsLean, stage_of}
use Rattle.lk_model.specs.Chains.Chain.{Premises, chain_clause}
use Rattle.lk_model.specs.Chains.Rounds.{reached, used_positions, has_progress}
use Rattle.lk_model.specs.Checks.CommonChecks.{other_formula, kept_clause, protected_set, not_autarky, not_exactly_removed, model_fails}
use Rattle.lk_model.specs.Checks.Checks.{first_failure_to_extend, first_failure_to_extend_under}
use Rattle.lk_model.specs.declared.wide.Op.TheVariants.{Difference}
use Rattle.lk_model.specs.declared.document.Round.{Round}
use Rattle.lk_model.specs.declared.document.Step.{Step}
use Rattle.lk_model.specs.declared.verdict.Kind.TheVariants.{ModelFails}
use Rattle.test_definitions.proofs.WorkedDocuments.{equivalence, four_signs, unit_twice, pure_done, resolved_on_2, refuting}
use Rattle.test_definitions.proofs.Cases.{refused}

-- ARITHMETIC

abbrev greatest : ℕ
greatest = 170141183460469231731687303715884105727

gcd_of_signs : gcd_of (negsuc 5) (pos 4) ≡ pos 2
unfolding gcd
gcd_of_signs = refl

gcd_of_zeros : gcd_of (pos 0) (pos 0) ≡ pos 0
unfolding gcd
gcd_of_zeros = refl

combined_rows : combined (pos 2) (pos 1) (pos 1 ∷ pos 1 ∷ []) (pos 2 ∷ negsuc 1 ∷ []) ≡ pos 0 ∷ pos 1 ∷ []
unfolding combined gcd
combined_rows = refl

too_wide : first_wide (made_in_row (pos 1) (pos 1) (pos 1 ∷ pos greatest ∷ []) (pos 1 ∷ neg_ℤ (pos greatest) ∷ []))
    ≡ Some (made Difference (pos greatest) (neg_ℤ (pos greatest)))
unfolding first_wide made_in_row gcd
too_wide = refl

primitive_row : primitive (pos 4 ∷ negsuc 5 ∷ pos 0 ∷ []) ≡ pos 2 ∷ negsuc 2 ∷ pos 0 ∷ []
unfolding gcd
primitive_row = refl

primitive_zeros : primitive (pos 0 ∷ pos 0 ∷ []) ≡ pos 0 ∷ pos 0 ∷ []
unfolding gcd
primitive_zeros = refl

-- THE LINEAR RUN

-- its moves over the four sign patterns
abbrev before : TableauRows
before = start_of four_signs (positions_of four_signs)

first_move : next before ≡ PivotOn 1 1
unfolding start_of start_row start_cost next
first_move = refl

second_move : next (pivoted before 1 1) ≡ PivotOn 2 2
unfolding start_of start_row start_cost next pivoted combined gcd
second_move = refl

last_move : next (pivoted (pivoted before 1 1) 2 2) ≡ EndsLean
unfolding start_of start_row start_cost next pivoted combined gcd
last_move = refl

-- and its first stage over a unit clause that stands twice
stage_at_once : next (start_of unit_twice (positions_of unit_twice)) ≡ StageStands
unfolding start_of start_row start_cost next
stage_at_once = refl

stage_weights : stage_of (start_of unit_twice (positions_of unit_twice)) ≡ record { weights = record { var = 1; x = pos 1 } ∷ [] }
unfolding start_of start_row start_cost stage_of gcd
stage_weights = refl

-- A REFUTATION OF THE FOUR SIGN PATTERNS

abbrev premises : List Step → Premises
premises earlier = record { formula = four_signs; part = positions_of four_signs; blocked = no_variable; earlier = earlier }

first_chain : chain_clause (premises []) resolved_on_2.first resolved_on_2.turns ≡ Some (pos 1 ∷ pos 1 ∷ [])
first_chain = refl

second_chain : chain_clause (premises (resolved_on_2 ∷ [])) refuting.first refuting.turns ≡ Some []
second_chain = refl

abbrev round : Round
round = record { steps = resolved_on_2 ∷ refuting ∷ [] }

used : used_positions four_signs round ≡ 1 ∷ 2 ∷ 3 ∷ 4 ∷ []
unfolding reached
used = refl

progress : has_progress four_signs no_variable (round ∷ []) ≡ true
unfolding reached has_progress
progress = refl

-- EXTENDING A MODEL

extends : first_failure_to_extend equivalence pure_done (assignment_of (pos 2 ∷ pos 3 ∷ [])) ≡ None
unfolding first_failure_to_extend_under other_formula kept_clause protected_set not_autarky not_exactly_removed model_fails
extends = refl

fails_to_extend : first_failure_to_extend equivalence pure_done (assignment_of (pos 2 ∷ [])) ≡ refused ModelFails 2
unfolding first_failure_to_extend_under other_formula kept_clause protected_set not_autarky not_exactly_removed model_fails
fails_to_extend = refl
