-- All of the law.
use Rattle.std.proofs.Common.{◌≡◌, ℕ, List, [], refl, sym, subst, length}
use Rattle.lk_model.specs.Formulas.Formula.{Cnf}
use Rattle.lk_model.specs.Formulas.Crossed.{no_variable}
use Rattle.lk_model.specs.Formulas.Parts.{AreParts}
use Rattle.lk_model.specs.Chains.Rounds.{blocked_after, has_progress, AreNeeded}
use Rattle.lk_model.specs.declared.document.Round.{Round}
use Rattle.lk_model.specs.declared.result.GeneralResult.{GeneralResult}
use Rattle.general_laws.specs.GeneralResults.{all_joined}
use Rattle.general_laws.proofs.PartResults.{parts_apart}
use Rattle.round_laws.specs.Budgets.{AreFinished}
use Rattle.round_laws.specs.RoundLaw.{RoundLaw}
use Rattle.round_laws.proofs.Trimmed.{all_trimmed}
use Rattle.round_laws.proofs.Progressing.{all_progress}
use Rattle.round_laws.proofs.Pieces.{within_budget, have_results}
use Rattle.round_laws.proofs.Outside.{needed_outside, budget_outside, wants_outside}

-- nothing of the rounds of all parts, joined, is needless
all_needed : (F : Cnf) (conflicts : ℕ) (parts : List (List ℕ)) (found : List GeneralResult) (t : GeneralResult) → AreParts F parts
    → AreFinished F conflicts parts found → t.rounds ≡ all_joined F [] found → AreNeeded F no_variable t.rounds
unfolding has_progress blocked_after
all_needed F conflicts parts found t are done e =
    let apart = parts_apart F 0 (length F.clauses) parts are.order are.each in
    subst (λ (us : List Round). AreNeeded F no_variable us) (sym e) (record {
      trimmed = all_trimmed F conflicts [] parts found refl done;
      progress = all_progress F conflicts [] parts found refl (λ v there. refl) apart done;
    })

-- all of it
pub round_law : RoundLaw
round_law = record {
  needed = all_needed;
  budget = within_budget;
  results = have_results;
  protected_needed = needed_outside;
  protected_budget = budget_outside;
  protected_wants = wants_outside;
}
