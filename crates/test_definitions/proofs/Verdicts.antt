-- What the checks say of the worked documents and of others that differ in one line.
use Rattle.std.specs.Prelude.{◌≡◌, refl, List, [], ◌∷◌, pos, negsuc, None}
use Rattle.lk_model.specs.Chains.Chain.{states_its_clause, is_learned}
use Rattle.lk_model.specs.Chains.Rounds.{reached, blocked_after, steps_in_rounds}
use Rattle.lk_model.specs.Checks.Checks.{first_failure_under}
use Rattle.lk_model.specs.Checks.CommonChecks.{other_formula, kept_clause, protected_set, not_autarky, not_exactly_removed}
use Rattle.lk_model.specs.Checks.PureChecks.{bad_order, bad_pair}
use Rattle.lk_model.specs.Checks.MatchingChecks.{bad_owner, bad_row}
use Rattle.lk_model.specs.Checks.LinearChecks.{bad_sign, bad_stage, bad_dual, bad_balance, bad_unit}
use Rattle.lk_model.specs.Checks.RoundChecks.{bad_step, not_blocked, every_clause, bad_count, not_learned}
use Rattle.lk_model.specs.declared.document.Body.TheVariants.{Pure, Matching, Linear, General}
use Rattle.lk_model.specs.declared.document.DoneDocument.{DoneDocument}
use Rattle.lk_model.specs.declared.document.Document.TheVariants.{Done, Unfinished}
use Rattle.lk_model.specs.declared.verdict.Kind.TheVariants.{OtherFormula, KeptClause, NotAutarky, NotExactlyRemoved, BadOrder, BadOwner, BadSign, BadStage, BadPair, BadRow, BadDual, BadBalance, BadUnit, BadCount, BadStep, NotBlocked, NotLearned}
use Rattle.test_definitions.proofs.WorkedDocuments.{equivalence, four_signs, eight_signs, cycle, unit_twice, clash, kept_pairs, pure_done, matching_done, rows_done, duals_of_one, two_units, linear_done, resolved_on_2, refuting, general_done, unfinished_open}
use Rattle.test_definitions.proofs.Cases.{Case, refused, computed, expected}

-- PURE

pure_cases : List Case
pure_cases = (Done pure_done, None)
    ∷ (Done (record pure_done { vars = 4; texts = record { vars = 4; clauses = pure_done.texts.clauses } }), refused OtherFormula 0)
    ∷ (Done (record pure_done { set = [] }), refused NotExactlyRemoved 1)
    ∷ (Done (record pure_done { set = negsuc 0 ∷ [] }), refused NotAutarky 1)
    ∷ (Done (record pure_done { body = Pure [] kept_pairs }), refused BadOrder 1)
    ∷ (Done (record pure_done { body = Pure (pos 1 ∷ pos 1 ∷ []) kept_pairs }), refused BadOrder 2)
    ∷ (Done (record pure_done { body = Pure (pos 1 ∷ []) (record { var = 2; with = 2; against = 3 } ∷ record { var = 3; with = 2; against = 3 } ∷ []) }), refused BadPair 2) ∷ []

pure_verdicts : computed equivalence pure_cases ≡ expected pure_cases
unfolding pure_cases first_failure_under other_formula kept_clause protected_set not_autarky not_exactly_removed bad_order bad_pair
pure_verdicts = refl

-- MATCHING

matching_cases : List Case
matching_cases = (Done matching_done, None)
    ∷ (Done (record matching_done { body = Matching (record { pos = 1; var = 1 } ∷ record { pos = 2; var = 2 } ∷ record { pos = 3; var = 2 } ∷ []) [] }), refused BadOwner 2) ∷ []

matching_verdicts : computed equivalence matching_cases ≡ expected matching_cases
unfolding matching_cases first_failure_under other_formula kept_clause protected_set not_autarky not_exactly_removed bad_owner bad_row
matching_verdicts = refl

-- one variable for both clauses
both_owned : DoneDocument
both_owned = record {
  vars = 1;
  clauses = 2;
  protect = None;
  kept = [];
  set = pos 1 ∷ [];
  body = Matching (record { pos = 1; var = 1 } ∷ record { pos = 2; var = 1 } ∷ []) [];
  texts = record { vars = 1; clauses = [] };
}

owner_cases : List Case
owner_cases = (Done both_owned, refused BadOwner 2) ∷ []

owner_verdicts : computed unit_twice owner_cases ≡ expected owner_cases
unfolding owner_cases both_owned first_failure_under other_formula kept_clause protected_set not_autarky not_exactly_removed bad_owner bad_row
owner_verdicts = refl

row_cases : List Case
row_cases = (Done rows_done, None)
    ∷ (Done (record rows_done { body = Matching [] (record { var = 1; own = 1; escape = 1; rank = 1 } ∷ record { var = 2; own = 2; escape = 1; rank = 2 } ∷ record { var = 3; own = 3; escape = 4; rank = 1 } ∷ []) }), refused BadRow 1)
    ∷ (Done (record rows_done { body = Matching [] (record { var = 1; own = 1; escape = 4; rank = 2 } ∷ record { var = 2; own = 2; escape = 1; rank = 2 } ∷ record { var = 3; own = 3; escape = 4; rank = 1 } ∷ []) }), refused BadRow 2) ∷ []

row_verdicts : computed cycle row_cases ≡ expected row_cases
unfolding row_cases first_failure_under other_formula kept_clause protected_set not_autarky not_exactly_removed bad_owner bad_row
row_verdicts = refl

-- LINEAR

-- the stages touch all clauses of the cycle
all_touched : DoneDocument
all_touched = record {
  vars = 3;
  clauses = 4;
  protect = None;
  kept = [];
  set = pos 1 ∷ pos 2 ∷ pos 3 ∷ [];
  body = Linear [] [] [];
  texts = record { vars = 3; clauses = [] };
}

stage_cases : List Case
stage_cases = (Done (record all_touched { body = Linear (record { weights = record { var = 1; x = pos 1 } ∷ record { var = 2; x = pos 1 } ∷ record { var = 3; x = pos 1 } ∷ [] } ∷ []) [] [] }), None)
    ∷ (Done (record all_touched { body = Linear (record { weights = record { var = 1; x = pos 1 } ∷ record { var = 2; x = pos 2 } ∷ record { var = 3; x = pos 1 } ∷ [] } ∷ []) [] [] }), refused BadStage 1)
    ∷ (Done (record all_touched { body = Linear (record { weights = record { var = 1; x = pos 1 } ∷ record { var = 2; x = pos 1 } ∷ [] } ∷ []) [] [] }), refused BadSign 3) ∷ []

stage_verdicts : computed cycle stage_cases ≡ expected stage_cases
unfolding stage_cases all_touched first_failure_under other_formula kept_clause protected_set not_autarky not_exactly_removed bad_sign bad_stage bad_dual bad_balance bad_unit
stage_verdicts = refl

-- the greatest numbers balance too
linear_cases : List Case
linear_cases = (Done linear_done, None)
    ∷ (Done (record linear_done { body = Linear [] (record { pos = 1; y = pos 170141183460469231731687303715884105727 } ∷ record { pos = 2; y = pos 170141183460469231731687303715884105727 } ∷ record { pos = 3; y = pos 170141183460469231731687303715884105727 } ∷ record { pos = 4; y = pos 170141183460469231731687303715884105727 } ∷ []) two_units }), None)
    ∷ (Done (record linear_done { body = Linear [] (record { pos = 1; y = pos 1 } ∷ record { pos = 2; y = pos 1 } ∷ record { pos = 3; y = pos 1 } ∷ record { pos = 4; y = pos 0 } ∷ []) two_units }), refused BadDual 4)
    ∷ (Done (record linear_done { body = Linear [] (record { pos = 1; y = pos 2 } ∷ record { pos = 2; y = pos 1 } ∷ record { pos = 3; y = pos 1 } ∷ record { pos = 4; y = pos 1 } ∷ []) two_units }), refused BadBalance 1)
    ∷ (Done (record linear_done { body = Linear [] duals_of_one [] }), refused BadUnit 1)
    ∷ (Done (record linear_done { texts = record { vars = 2; clauses = (pos 1 ∷ pos 2 ∷ []) ∷ (pos 1 ∷ pos 2 ∷ []) ∷ (negsuc 0 ∷ pos 2 ∷ []) ∷ (negsuc 0 ∷ negsuc 1 ∷ []) ∷ [] } }), refused KeptClause 2) ∷ []

linear_verdicts : computed four_signs linear_cases ≡ expected linear_cases
unfolding linear_cases first_failure_under other_formula kept_clause protected_set not_autarky not_exactly_removed bad_sign bad_stage bad_dual bad_balance bad_unit
linear_verdicts = refl

-- GENERAL

general_cases : List Case
general_cases = (Done general_done, None)
    ∷ (Done (record general_done { body = General (record { steps = record resolved_on_2 { clause = pos 2 ∷ [] } ∷ refuting ∷ [] } ∷ []) }), refused BadStep 5)
    ∷ (Done (record general_done { body = General (record { steps = record resolved_on_2 { clause = pos 2 ∷ [] } ∷ record { number = 6; clause = []; first = 4; turns = record { lit = pos 2; with = 3 } ∷ [] } ∷ [] } ∷ []) }), refused BadStep 5)
    ∷ (Done (record general_done { body = General (record { steps = resolved_on_2 ∷ record refuting { turns = record { lit = pos 2; with = 4 } ∷ [] } ∷ [] } ∷ []) }), refused BadStep 6) ∷ []

general_verdicts : computed four_signs general_cases ≡ expected general_cases
unfolding general_cases first_failure_under other_formula kept_clause protected_set not_autarky not_exactly_removed bad_step not_blocked states_its_clause reached blocked_after steps_in_rounds
general_verdicts = refl

-- a refutation that uses the clash alone leaves the clause apart from it
clash_kept : DoneDocument
clash_kept = record {
  vars = 2;
  clauses = 3;
  protect = None;
  kept = 1 ∷ 2 ∷ 3 ∷ [];
  set = [];
  body = General (record {
    steps = record { number = 4; clause = pos 2 ∷ []; first = 3; turns = [] }
        ∷ record { number = 5; clause = []; first = 1; turns = record { lit = pos 1; with = 2 } ∷ [] } ∷ [];
  } ∷ []);
  texts = clash;
}

clash_cases : List Case
clash_cases = (Done clash_kept, refused NotBlocked 2) ∷ []

clash_verdicts : computed clash clash_cases ≡ expected clash_cases
unfolding clash_cases clash_kept first_failure_under other_formula kept_clause protected_set not_autarky not_exactly_removed bad_step not_blocked states_its_clause reached blocked_after steps_in_rounds
clash_verdicts = refl

-- UNFINISHED

unfinished_cases : List Case
unfinished_cases = (Unfinished unfinished_open, None)
    ∷ (Unfinished (record unfinished_open { learned = 2 }), refused BadCount 0)
    ∷ (Unfinished (record unfinished_open { rounds = record { steps = record { number = 9; clause = negsuc 0 ∷ negsuc 1 ∷ negsuc 2 ∷ []; first = 8; turns = [] } ∷ [] } ∷ [] }), refused NotLearned 9) ∷ []

unfinished_verdicts : computed eight_signs unfinished_cases ≡ expected unfinished_cases
unfolding unfinished_cases first_failure_under other_formula every_clause bad_count bad_step not_learned states_its_clause is_learned steps_in_rounds
unfinished_verdicts = refl
