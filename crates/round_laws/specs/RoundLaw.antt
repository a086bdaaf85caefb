-- Rounds that are found part by part, and rounds under protected variables.
use Rattle.std.specs.Prelude.{◌≡◌, ℕ, List, [], Option}
use Rattle.lk_model.specs.Formulas.Formula.{Cnf}
use Rattle.lk_model.specs.Formulas.Crossed.{no_variable, protected_by}
use Rattle.lk_model.specs.Formulas.Parts.{AreParts}
use Rattle.lk_model.specs.Chains.Rounds.{AreNeeded}
use Rattle.lk_model.specs.Chains.Searches.{WantsMore}
use Rattle.lk_model.specs.declared.document.Round.{Round}
use Rattle.lk_model.specs.declared.result.GeneralResult.{GeneralResult}
use Rattle.general_laws.specs.GeneralResults.{AreGeneralResults, all_joined}
use Rattle.document_laws.specs.FoundLaw.{rest_of}
use Rattle.round_laws.specs.Budgets.{AreFinished}
use Rattle.lk_model.specs.Chains.Budgets.{AreWithinBudget}

-- Where each part of a formula is finished within a budget, nothing of the rounds of all parts, joined, is needless, and in
-- each part they learn no more than the budget; each part has its result. What is needed, what is within a budget and what
-- wants more on the formula without the protected variables is so on the formula where these are blocked from the start.
pub record RoundLaw : Type 0 where
  pub needed : (F : Cnf) (conflicts : ℕ) (parts : List (List ℕ)) (found : List GeneralResult) (t : GeneralResult)
      → AreParts F parts
      → AreFinished F conflicts parts found → t.rounds ≡ all_joined F [] found → AreNeeded F no_variable t.rounds
  pub budget : (F : Cnf) (conflicts : ℕ) (parts : List (List ℕ)) (found : List GeneralResult) (t : GeneralResult)
      → AreParts F parts
      → AreFinished F conflicts parts found → t.rounds ≡ all_joined F [] found
      → AreWithinBudget no_variable F conflicts t.rounds
  pub results : (F : Cnf) (conflicts : ℕ) (parts : List (List ℕ)) (found : List GeneralResult)
      → AreFinished F conflicts parts found
      → AreGeneralResults F parts found
  pub protected_needed : (F : Cnf) (protect : Option (List ℕ)) (rounds : List Round)
      → AreNeeded (rest_of F protect) no_variable rounds
      → AreNeeded F (protected_by protect) rounds
  pub protected_budget : (F : Cnf) (conflicts : ℕ) (protect : Option (List ℕ)) (rounds : List Round)
      → AreWithinBudget no_variable (rest_of F protect) conflicts rounds
      → AreWithinBudget (protected_by protect) F conflicts rounds
  pub protected_wants : (F : Cnf) (protect : Option (List ℕ)) (part : List ℕ) (rounds : List Round)
      → WantsMore (rest_of F protect) no_variable part rounds → WantsMore F (protected_by protect) part rounds
