-- Results for groups, one after another: what callers need.
use Rattle.std.proofs.Common.{◌≡◌, ℕ, zero, suc, ◌<◌, List, [], ◌∷◌, ◌++◌, length, get_or, arith}
use Rattle.lk_model.specs.Formulas.Formula.{Cnf}
use Rattle.lk_model.specs.declared.result.MatchingResult.{MatchingResult}
use Rattle.matching_laws.specs.MatchingResults.{IsMatchingResult}
use Rattle.autarky_compose.specs.JoinedMatching.{AreMatchingResults}
use Rattle.autarky_compose.proofs.Sources.{nothing}

-- one group and its result more
pub results_more : (F : Cnf) (groups : List (List ℕ)) (found : List MatchingResult) (group : List ℕ) (r : MatchingResult) → AreMatchingResults F groups found
    → IsMatchingResult F group r → AreMatchingResults F (groups ++ group ∷ []) (found ++ r ∷ [])
results_more F [] [] group r all h = (h, tt)
results_more F [] (s ∷ found) group r all h = absurd all
results_more F (ps ∷ groups) [] group r all h = absurd all
results_more F (ps ∷ groups) (s ∷ found) group r all h = (all.0, results_more F groups found group r all.1 h)

-- results that each are one for the group at their place
pub results_from : (F : Cnf) (groups : List (List ℕ)) (found : List MatchingResult) → length found ≡ length groups
    → ((k : ℕ) → k < length groups → IsMatchingResult F (get_or groups k []) (get_or found k nothing)) → AreMatchingResults F groups found
results_from F [] [] e each = tt
results_from F [] (r ∷ found) e each = absurd (omega (arith, e))
results_from F (ps ∷ groups) [] e each = absurd (omega (arith, e))
results_from F (ps ∷ groups) (r ∷ found) e each =
    (each zero (omega arith), results_from F groups found (omega (arith, e)) (λ k lt. each (suc k) (omega (arith, lt))))
