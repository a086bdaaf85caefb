-- What the checks say of documents with protected variables, and of others that differ in one line.
use Rattle.std.specs.Prelude.{◌≡◌, refl, true, List, [], ◌∷◌, map, pos, negsuc, Some, None}
use Rattle.lk_model.specs.Formulas.Crossed.{protected_by}
use Rattle.lk_model.specs.Formulas.Assignment.{assignment_of, extended_literals}
use Rattle.lk_model.specs.Chains.Chain.{states_its_clause, is_learned}
use Rattle.lk_model.specs.Chains.Rounds.{reached, blocked_after, steps_in_rounds, has_progress}
use Rattle.lk_model.specs.Checks.CommonChecks.{other_formula, kept_clause, protected_set, not_autarky, not_exactly_removed, model_fails}
use Rattle.lk_model.specs.Checks.PureChecks.{bad_order, bad_pair}
use Rattle.lk_model.specs.Checks.MatchingChecks.{bad_owner, bad_row}
use Rattle.lk_model.specs.Checks.LinearChecks.{bad_sign, bad_stage, bad_dual, bad_balance, bad_unit}
use Rattle.lk_model.specs.Checks.RoundChecks.{bad_step, not_blocked, every_clause, bad_count, not_learned}
use Rattle.lk_model.specs.Checks.Checks.{first_failure_under, first_failure_to_extend, first_failure_to_extend_under, HasProgress}
use Rattle.lk_model.specs.declared.document.Body.TheVariants.{Pure, Linear, General}
use Rattle.lk_model.specs.declared.document.DoneDocument.{DoneDocument}
use Rattle.lk_model.specs.declared.document.Document.TheVariants.{Done, Unfinished}
use Rattle.lk_model.specs.declared.verdict.Kind.TheVariants.{ProtectedSet, BadPair, BadRow, BadBalance, BadUnit, BadStep, NotBlocked, NotLearned, ModelFails}
use Rattle.test_definitions.proofs.WorkedDocuments.{equivalence, four_signs, eight_signs, cycle, pure_done, duals_of_one, two_units, learned_step}
use Rattle.test_definitions.proofs.ProtectedDocuments.{all_pairs, all_kept, all_rows, two_protected, one_unit, one_linear, no_round, crossed_round, cycle_kept, three_protected}
use Rattle.test_definitions.proofs.Cases.{Case, refused, computed, expected}

-- PURE

-- a pair for a protected variable, a variable without a pair, and a set line with a protected variable are refused
pure_cases : List Case
pure_cases = (Done all_kept, None)
    ∷ (Done (record pure_done { protect = Some [] }), None)
    ∷ (Done (record all_kept { body = Pure [] (record { var = 1; with = 1; against = 1 } ∷ all_pairs) }), refused BadPair 1)
    ∷ (Done (record all_kept { protect = Some [] }), refused BadPair 1)
    ∷ (Done (record all_kept { protect = Some (1 ∷ 2 ∷ []) }), refused BadPair 2)
    ∷ (Done (record pure_done { protect = Some (1 ∷ []) }), refused ProtectedSet 1)
    ∷ (Done (record pure_done { protect = Some (2 ∷ []) }), refused BadPair 2) ∷ []

pure_verdicts : computed equivalence pure_cases ≡ expected pure_cases
unfolding pure_cases first_failure_under other_formula kept_clause protected_set not_autarky not_exactly_removed bad_order bad_pair
pure_verdicts = refl

-- MATCHING

-- the set line is refused before what it touches is looked at
matching_cases : List Case
matching_cases = (Done all_rows, None)
    ∷ (Done two_protected, None)
    ∷ (Done (record two_protected { set = pos 1 ∷ pos 2 ∷ [] }), refused ProtectedSet 2)
    ∷ (Done (record two_protected { set = pos 1 ∷ negsuc 2 ∷ [] }), refused ProtectedSet 3)
    ∷ (Done (record two_protected { protect = Some (3 ∷ []) }), refused BadRow 2)
    ∷ (Done (record all_rows { protect = None }), refused BadRow 1) ∷ []

matching_verdicts : computed equivalence matching_cases ≡ expected matching_cases
unfolding matching_cases first_failure_under other_formula kept_clause protected_set not_autarky not_exactly_removed bad_owner bad_row
matching_verdicts = refl

-- LINEAR

-- the duals need not balance in 2, and with nothing protected 2 wants a unit and the one of 1 is off in it
linear_cases : List Case
linear_cases = (Done one_linear, None)
    ∷ (Done (record one_linear { body = Linear [] (record { pos = 1; y = pos 2 } ∷ record { pos = 2; y = pos 1 } ∷ record { pos = 3; y = pos 2 } ∷ record { pos = 4; y = pos 1 } ∷ []) one_unit }), None)
    ∷ (Done (record one_linear { body = Linear [] (record { pos = 1; y = pos 2 } ∷ record { pos = 2; y = pos 1 } ∷ record { pos = 3; y = pos 1 } ∷ record { pos = 4; y = pos 1 } ∷ []) one_unit }), refused BadBalance 1)
    ∷ (Done (record one_linear { body = Linear [] duals_of_one two_units }), refused BadUnit 2)
    ∷ (Done (record one_linear { protect = Some (1 ∷ []) }), refused BadUnit 1)
    ∷ (Done (record one_linear { protect = None }), refused BadUnit 1) ∷ []

linear_verdicts : computed four_signs linear_cases ≡ expected linear_cases
unfolding linear_cases first_failure_under other_formula kept_clause protected_set not_autarky not_exactly_removed bad_sign bad_stage bad_dual bad_balance bad_unit
linear_verdicts = refl

-- GENERAL

-- no round is wanted where all variables are protected; else one that is not is not blocked
general_cases : List Case
general_cases = (Done no_round, None)
    ∷ (Done (record no_round { protect = Some (2 ∷ []) }), refused NotBlocked 1)
    ∷ (Done (record no_round { protect = Some (1 ∷ []) }), refused NotBlocked 2) ∷ []

general_verdicts : computed four_signs general_cases ≡ expected general_cases
unfolding general_cases first_failure_under other_formula kept_clause protected_set not_autarky not_exactly_removed bad_step not_blocked blocked_after steps_in_rounds
general_verdicts = refl

-- all literals made true
all_true : DoneDocument
all_true = record cycle_kept { kept = []; set = pos 1 ∷ pos 2 ∷ pos 3 ∷ []; body = General []; texts = record { vars = 3; clauses = [] } }

-- With nothing protected the chain keeps 1 in both signs, and no clause need be kept. With 2 protected the first turn has
-- no literal to resolve on.
cycle_cases : List Case
cycle_cases = (Done cycle_kept, None)
    ∷ (Done (record cycle_kept { protect = None }), refused BadStep 5)
    ∷ (Done (record cycle_kept { protect = Some (2 ∷ []) }), refused BadStep 5)
    ∷ (Done (record cycle_kept { body = General [] }), refused NotBlocked 2)
    ∷ (Done (record all_true { protect = None }), None)
    ∷ (Done all_true, refused ProtectedSet 1) ∷ []

cycle_verdicts : computed cycle cycle_cases ≡ expected cycle_cases
unfolding cycle_cases all_true first_failure_under other_formula kept_clause protected_set not_autarky not_exactly_removed bad_step not_blocked states_its_clause reached blocked_after steps_in_rounds
cycle_verdicts = refl

-- 1 is blocked from the start, and the round blocks 2 and 3
cycle_blocked : map (blocked_after cycle (protected_by cycle_kept.protect) (crossed_round ∷ [])) (1 ∷ 2 ∷ 3 ∷ []) ≡ true ∷ true ∷ true ∷ []
unfolding blocked_after reached
cycle_blocked = refl

cycle_progress : has_progress cycle (protected_by cycle_kept.protect) (crossed_round ∷ []) ≡ true
unfolding has_progress reached
cycle_progress = refl

-- UNFINISHED

-- with nothing protected the chain gives another clause; a crossed clause is not learned
unfinished_cases : List Case
unfinished_cases = (Unfinished three_protected, None)
    ∷ (Unfinished (record three_protected { protect = None }), refused BadStep 9)
    ∷ (Unfinished (record three_protected { rounds = record { steps = record learned_step { turns = [] } ∷ [] } ∷ [] }), refused NotLearned 9) ∷ []

unfinished_verdicts : computed eight_signs unfinished_cases ≡ expected unfinished_cases
unfolding unfinished_cases first_failure_under other_formula every_clause bad_count bad_step not_learned states_its_clause is_learned steps_in_rounds
unfinished_verdicts = refl

unfinished_progress : HasProgress eight_signs three_protected
unfolding has_progress
unfinished_progress = refl

-- EXTENDING A MODEL

-- the model is to satisfy the kept clauses; then its values go to the protected variables
extends : first_failure_to_extend equivalence two_protected (assignment_of (negsuc 1 ∷ negsuc 2 ∷ [])) ≡ None
unfolding first_failure_to_extend_under other_formula kept_clause protected_set not_autarky not_exactly_removed model_fails
extends = refl

fails_to_extend : first_failure_to_extend equivalence two_protected (assignment_of (pos 2 ∷ [])) ≡ refused ModelFails 2
unfolding first_failure_to_extend_under other_formula kept_clause protected_set not_autarky not_exactly_removed model_fails
fails_to_extend = refl

sets_protected : first_failure_to_extend equivalence (record two_protected { set = pos 1 ∷ pos 2 ∷ [] }) (assignment_of []) ≡ refused ProtectedSet 2
unfolding first_failure_to_extend_under other_formula kept_clause protected_set not_autarky not_exactly_removed model_fails
sets_protected = refl

extended : extended_literals (assignment_of two_protected.set) (assignment_of (negsuc 1 ∷ negsuc 2 ∷ [])) 3 ≡ pos 1 ∷ negsuc 1 ∷ negsuc 2 ∷ []
extended = refl
