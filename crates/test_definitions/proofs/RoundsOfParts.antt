-- Two copies of the four sign patterns as two parts: a round for each part, and both rounds one after the other.
use Rattle.std.specs.Prelude.{◌≡◌, ℕ, true, List, [], ◌∷◌, pos, negsuc, Some, None, refl, map}
use Rattle.std.specs.List.{list_all}
use Rattle.lk_model.specs.Formulas.Formula.{Cnf, positions_of}
use Rattle.lk_model.specs.Formulas.Crossed.{no_variable}
use Rattle.lk_model.specs.Chains.Chain.{states_its_clause}
use Rattle.lk_model.specs.Chains.Rounds.{reached, steps_in_rounds, blocked_after, names_within, has_progress}
use Rattle.lk_model.specs.Documents.Documents.{steps_of}
use Rattle.lk_model.specs.Documents.Form.{are_steps, is_whole}
use Rattle.lk_model.specs.Checks.RoundChecks.{bad_step}
use Rattle.lk_model.specs.declared.document.Round.{Round}

abbrev patterns : Cnf
patterns = record {
  vars = 4;
  clauses = (pos 1 ∷ pos 2 ∷ []) ∷ (pos 1 ∷ negsuc 1 ∷ []) ∷ (negsuc 0 ∷ pos 2 ∷ []) ∷ (negsuc 0 ∷ negsuc 1 ∷ [])
      ∷ (pos 3 ∷ pos 4 ∷ []) ∷ (pos 3 ∷ negsuc 3 ∷ []) ∷ (negsuc 2 ∷ pos 4 ∷ []) ∷ (negsuc 2 ∷ negsuc 3 ∷ []) ∷ [];
}

abbrev first_part : List ℕ
first_part = 1 ∷ 2 ∷ 3 ∷ 4 ∷ []

abbrev second_part : List ℕ
second_part = 5 ∷ 6 ∷ 7 ∷ 8 ∷ []

-- a round of each part, the second with the numbers that follow
abbrev first_round : Round
first_round = record {
  steps = record { number = 9; clause = pos 1 ∷ []; first = 1; turns = record { lit = pos 2; with = 2 } ∷ [] }
      ∷ record { number = 10; clause = []; first = 3; turns = record { lit = pos 2; with = 4 } ∷ record { lit = negsuc 0; with = 9 } ∷ [] } ∷ [];
}

abbrev second_round : Round
second_round = record {
  steps = record { number = 11; clause = pos 3 ∷ []; first = 5; turns = record { lit = pos 4; with = 6 } ∷ [] }
      ∷ record { number = 12; clause = []; first = 7; turns = record { lit = pos 4; with = 8 } ∷ record { lit = negsuc 2; with = 11 } ∷ [] } ∷ [];
}

abbrev both_rounds : List Round
both_rounds = first_round ∷ second_round ∷ []

numbered : are_steps 4 8 (steps_of both_rounds) ≡ true
numbered = refl

whole : list_all is_whole both_rounds ≡ true
whole = refl

-- each names positions of its part alone, over which each step states its clause; so it does over all positions
first_names : names_within patterns first_part (first_round ∷ []) ≡ true
first_names = refl

second_names : names_within patterns second_part (second_round ∷ []) ≡ true
second_names = refl

first_stated : (bad_step no_variable patterns first_part (first_round ∷ [])).place ≡ None
unfolding bad_step steps_in_rounds states_its_clause
first_stated = refl

both_stated : (bad_step no_variable patterns (positions_of patterns) both_rounds).place ≡ None
unfolding bad_step steps_in_rounds states_its_clause reached
both_stated = refl

-- over the one part the first step of the other has no clause to begin with
other_part : (bad_step no_variable patterns first_part both_rounds).place ≡ Some 11
unfolding bad_step steps_in_rounds states_its_clause reached
other_part = refl

-- a number of an earlier round stands for nothing
abbrev across_rounds : Round
across_rounds = record { steps = record { number = 11; clause = pos 1 ∷ []; first = 9; turns = [] } ∷ [] }

earlier_round : (bad_step no_variable patterns (positions_of patterns) (first_round ∷ across_rounds ∷ [])).place ≡ Some 11
unfolding bad_step steps_in_rounds states_its_clause reached
earlier_round = refl

-- all variables are blocked in the end, and each round blocks some
blocked_at_end : map (blocked_after patterns no_variable both_rounds) (1 ∷ 2 ∷ 3 ∷ 4 ∷ []) ≡ true ∷ true ∷ true ∷ true ∷ []
unfolding blocked_after reached
blocked_at_end = refl

progress : has_progress patterns no_variable both_rounds ≡ true
unfolding has_progress reached
progress = refl
