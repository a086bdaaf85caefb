-- Rounds without needless steps, unit propagation at rest, and a search that wants more.
use Rattle.std.specs.Prelude.{◌≡◌, ◌++◌, ◌==◌, if◌then◌else◌, Bool, true, false, List, [], ◌∷◌, ℤ, pos, negsuc, Option, Some, None, refl, IsTrue}
use Rattle.std.proofs.Common.{◌⊎◌, inl, inr, ap, sym, ◌∙◌, subst}
use Rattle.lk_model.specs.Formulas.Formula.{positions_of}
use Rattle.lk_model.specs.Formulas.Crossed.{no_variable}
use Rattle.lk_model.specs.Formulas.Assignment.{Assignment, assignment_of}
use Rattle.lk_model.specs.Formulas.Units.{is_at_rest, IsUndecided}
use Rattle.lk_model.specs.Chains.Rounds.{reached, is_trimmed, blocked_after, has_progress, AreNeeded}
use Rattle.lk_model.specs.Chains.Searches.{searched, WantsMore}
use Rattle.lk_model.specs.declared.document.Step.{Step}
use Rattle.lk_model.specs.declared.document.Round.{Round}
use Rattle.test_definitions.proofs.WorkedDocuments.{four_signs, eight_signs, resolved_on_2, refuting, learned_step, unfinished_open}

-- ROUNDS OF THE FOUR SIGN PATTERNS

abbrev round : Round
round = record { steps = resolved_on_2 ∷ refuting ∷ [] }

trimmed : is_trimmed round ≡ true
unfolding reached
trimmed = refl

needed : AreNeeded four_signs no_variable (round ∷ [])
unfolding reached has_progress
needed = record { trimmed = refl; progress = refl }

-- a clause that the refutation does not use
abbrev needless : Step
needless = record { number = 6; clause = pos 2 ∷ []; first = 1; turns = record { lit = pos 1; with = 3 } ∷ [] }

abbrev with_needless : Round
with_needless = record { steps = resolved_on_2 ∷ needless ∷ record refuting { number = 7 } ∷ [] }

not_trimmed : is_trimmed with_needless ≡ false
unfolding reached
not_trimmed = refl

-- a second refutation of the same clauses, whose variables are blocked already
not_needed : AreNeeded four_signs no_variable (round ∷ round ∷ []) → ⊥
unfolding reached has_progress
not_needed n = let p : false ≡ true = n.progress in cc

-- UNIT PROPAGATION

-- nothing is forced among the four sign patterns
undecided : IsUndecided four_signs.clauses
undecided = record { φ = assignment_of []; rests = refl; unsatisfied = refl }

-- and once 1 is true it meets a conflict
conflict : is_at_rest (assignment_of (pos 1 ∷ [])) four_signs.clauses ≡ false
conflict = refl

abbrev both_units : List (List ℤ)
both_units = (pos 1 ∷ []) ∷ (negsuc 0 ∷ []) ∷ []

-- two units that clash leave it no rest
no_rest : (φ : Assignment) → IsTrue (is_at_rest φ both_units) → ⊥
no_rest φ h = at (φ 1) h
  where
    at : (a : Option Bool) → is_at_rest (λ _. a) both_units ≡ true → ⊥
    at None e = cc
    at (Some true) e = cc
    at (Some false) e = cc

-- nor does a unit that is learned from the four sign patterns
abbrev with_learned : ℤ → List (List ℤ)
with_learned l = four_signs.clauses ++ (l ∷ []) ∷ []

abbrev two_values : Option Bool → Option Bool → Assignment
two_values a b v = if v == 1 then a else b

decided : IsUndecided (with_learned (pos 1)) → ⊥
decided u = at (u.φ 1) (u.φ 2) u.rests
  where
    at : (a b : Option Bool) → is_at_rest (two_values a b) (with_learned (pos 1)) ≡ true → ⊥
    at None None e = cc
    at None (Some true) e = cc
    at None (Some false) e = cc
    at (Some true) None e = cc
    at (Some true) (Some true) e = cc
    at (Some true) (Some false) e = cc
    at (Some false) None e = cc
    at (Some false) (Some true) e = cc
    at (Some false) (Some false) e = cc

decided_negative : IsUndecided (with_learned (negsuc 0)) → ⊥
decided_negative u = at (u.φ 1) (u.φ 2) u.rests
  where
    at : (a b : Option Bool) → is_at_rest (two_values a b) (with_learned (negsuc 0)) ≡ true → ⊥
    at None None e = cc
    at None (Some true) e = cc
    at None (Some false) e = cc
    at (Some true) None e = cc
    at (Some true) (Some true) e = cc
    at (Some true) (Some false) e = cc
    at (Some false) None e = cc
    at (Some false) (Some true) e = cc
    at (Some false) (Some false) e = cc

-- SEARCHES

-- one clause of two literals is learned from the eight sign patterns, and no variable is forced yet
wants_more : WantsMore eight_signs no_variable (positions_of eight_signs) unfinished_open.rounds
unfolding blocked_after
wants_more = record {
  whole = [];
  last = record { steps = learned_step ∷ [] };
  all = refl;
  left = 1;
  occurs = refl;
  unblocked = refl;
  undecided = inr (record { φ = assignment_of []; rests = refl; unsatisfied = refl });
}

-- once a unit is learned from the four sign patterns, the search must go on
abbrev learned_unit : Round
learned_unit = record { steps = resolved_on_2 ∷ [] }

goes_on : WantsMore four_signs no_variable (positions_of four_signs) (learned_unit ∷ []) → ⊥
unfolding blocked_after
goes_on w = at w.whole w.last w.all w.undecided
  where
    at : (whole : List Round) (last : Round) → learned_unit ∷ [] ≡ whole ++ last ∷ []
        → (last.steps ≡ []) ⊎ IsUndecided (searched four_signs (blocked_after four_signs no_variable whole) (positions_of four_signs) last) → ⊥
    at [] last e (inl none) = let same : learned_unit ≡ last = cc in let steps : resolved_on_2 ∷ [] ≡ [] = ap (λ (r : Round). r.steps) same ∙ none in cc
    at [] last e (inr u) = let same : learned_unit ≡ last = cc in
        decided (subst (λ (r : Round). IsUndecided (searched four_signs no_variable (positions_of four_signs) r)) (sym same) u)
    at (r ∷ []) last e u = cc
    at (r ∷ t ∷ rs) last e u = cc
