-- Rounds on the formula without the protected variables, and on the formula where these are blocked from the start.
use Rattle.std.proofs.Common.{◌≡◌, ℕ, not, List, [], ◌∷◌, ◌++◌, sym, ◌∙◌, ap, subst, inl, inr, map, filter, ℤ, Option}
use Rattle.std.proofs.lemmas.Bool.{not-true, or_from}
use Rattle.lk_model.specs.Lists.{is_empty}
use Rattle.lk_model.specs.Formulas.Formula.{Cnf, variable_occurs}
use Rattle.lk_model.specs.Formulas.Crossed.{Variables, no_variable, formula_without, protected_by}
use Rattle.lk_model.specs.Formulas.Units.{IsUndecided}
use Rattle.lk_model.specs.Chains.Rounds.{blocked_after, AreNeeded}
use Rattle.lk_model.specs.Chains.Searches.{searched, WantsMore}
use Rattle.lk_model.specs.declared.document.Step.{Step}
use Rattle.lk_model.specs.declared.document.Round.{Round}
use Rattle.lk_model.proofs.Booleans.{and_true}
use Rattle.kernel_laws.proofs.Crossing.{occurs_without}
use Rattle.kernel_laws.proofs.EmptyLaws.{empty_law}
use Rattle.document_laws.specs.FoundLaw.{rest_of}
use Rattle.document_laws.proofs.Rounds.{together, crossed_same, blocked_same, progress_same}
use Rattle.document_laws.proofs.ProtectedCheckLaws.{protected_check_law}
use Rattle.document_laws.proofs.Parts.{run_law}
use Rattle.lk_model.specs.Chains.Budgets.{AreLearnedWithin, AreWithinBudget}

-- NEEDED

pub needed_outside : (F : Cnf) (protect : Option (List ℕ)) (rounds : List Round)
    → AreNeeded (rest_of F protect) no_variable rounds
    → AreNeeded F (protected_by protect) rounds
needed_outside F protect rounds h = record { trimmed = h.trimmed; progress = progress_same F (protected_by protect) rounds ∙ h.progress }

-- BUDGETS

-- pieces name the same positions
learned_outside : (P : Variables) (F : Cnf) (conflicts : ℕ) (parts : List (List ℕ)) (pieces : List (List Round))
    → AreLearnedWithin (formula_without F P) conflicts parts pieces → AreLearnedWithin F conflicts parts pieces
learned_outside P F conflicts [] [] h = tt
learned_outside P F conflicts [] (piece ∷ pieces) h = absurd h
learned_outside P F conflicts (part ∷ parts) [] h = absurd h
learned_outside P F conflicts (part ∷ parts) (piece ∷ pieces) h =
    (protected_check_law.names P F part piece ∙ h.0, h.1, learned_outside P F conflicts parts pieces h.2)

pub budget_outside : (F : Cnf) (conflicts : ℕ) (protect : Option (List ℕ)) (rounds : List Round)
    → AreWithinBudget no_variable (rest_of F protect) conflicts rounds → AreWithinBudget (protected_by protect) F conflicts rounds
budget_outside F conflicts protect rounds h = record {
  parts = h.parts;
  pieces = h.pieces;
  are_parts = (run_law.parts (protected_by protect) F h.parts).1 ((empty_law.parts (rest_of F protect) h.parts).0 h.are_parts);
  all = h.all;
  each = learned_outside (protected_by protect) F conflicts h.parts h.pieces h.each;
}

-- SEARCHES

-- the crossed clauses that are searched are the same
searched_same : (P : Variables) (F : Cnf) (blocked : Variables) (part : List ℕ) (r : Round)
    → searched F (together P blocked) part r ≡ searched (formula_without F P) blocked part r
searched_same P F blocked part r =
    λ i. filter (λ c. not (is_empty c)) (map (λ p. crossed_same F P blocked p i) part) ++ map (λ (s : Step). s.clause) r.steps

pub wants_outside : (F : Cnf) (protect : Option (List ℕ)) (part : List ℕ) (rounds : List Round)
    → WantsMore (rest_of F protect) no_variable part rounds
    → WantsMore F (protected_by protect) part rounds
wants_outside F protect part rounds h =
    let P = protected_by protect in
    let same : blocked_after F P h.whole ≡ together P (blocked_after (formula_without F P) no_variable h.whole) = blocked_same F P h.whole in
    let outside = and_true (not (P h.left)) (variable_occurs F part h.left) (sym (occurs_without F P part h.left) ∙ h.occurs) in
    record {
      whole = h.whole;
      last = h.last;
      all = h.all;
      left = h.left;
      occurs = outside.1;
      unblocked = ap (λ (b : Variables). b h.left) same ∙ or_from _ _ h.unblocked (not-true (P h.left) outside.0);
      undecided = elim h.undecided [
        | inl none ↦ inl none
        | inr u ↦ inr (subst (λ (cs : List (List ℤ)). IsUndecided cs)
            (sym (ap (λ (b : Variables). searched F b part h.last) same ∙ searched_same P F (blocked_after (formula_without F P) no_variable h.whole) part h.last)) u)
      ];
    }
