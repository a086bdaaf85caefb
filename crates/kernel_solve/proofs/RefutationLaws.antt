-- What a refutation shows, and what is learned over a part.
use Rattle.std.proofs.Common.{◌≡◌, ℕ, ◌^◌, ◌<◌, true, not, List, [], ◌∷◌, sym, subst, length, filter}
use Rattle.std.proofs.lemmas.List.{append-nil}
use Rattle.lk_model.specs.Lists.{is_empty}
use Rattle.lk_model.specs.Formulas.Formula.{Cnf, is_formula, positions_of}
use Rattle.lk_model.specs.Formulas.Crossed.{no_variable}
use Rattle.lk_model.specs.Formulas.Lean.{are_positions}
use Rattle.lk_model.specs.Checks.RoundChecks.{learned_steps}
use Rattle.lk_model.specs.declared.document.Step.{Step}
use Rattle.lk_model.specs.declared.document.Round.{Round}
use Rattle.general_laws.specs.ForeignLaw.{IsAmongForeign}
use Rattle.general_laws.specs.OpenResults.{IsOpenResult}
use Rattle.general_laws.proofs.Foreign.{foreign_law}
use Rattle.general_laws.proofs.JoinLaws.{misstated_none, unlearned_none}
use Rattle.general_laws.proofs.Learning.{round_learns}
use Rattle.general_laws.proofs.Refuting.{refutation_law as refuted_law}
use Rattle.general_laws.proofs.UsedLaws.{used_law}
use Rattle.kernel_solve.specs.RefutationLaw.{SolveRefutationLaw}

whole : (F : Cnf) (part : List ℕ) (rounds : List Round) → are_positions F part ≡ true → IsAmongForeign no_variable F part
    → IsOpenResult F part rounds → IsOpenResult F (positions_of F) rounds
whole F part rounds rise foreign h =
    let both = foreign_law.whole F no_variable part rounds rise h.steps foreign h.stated h.learned in
    record { steps = h.steps; ends = h.ends; stated = both.0; learned = both.1; progress = h.progress }

few : (F : Cnf) (part : List ℕ) (r : Round) → is_formula F ≡ true → IsOpenResult F part (r ∷ [])
    → length (learned_steps (r ∷ [])) < 3 ^ F.vars
few F part r form h =
    let learned = round_learns F part no_variable r.steps form (misstated_none F no_variable part (r ∷ []) h.stated).0 (unlearned_none F part r h.learned) in
    subst (λ (us : List Step). length (filter (λ (s : Step). not (is_empty s.clause)) us) < 3 ^ F.vars) (sym (append-nil r.steps)) learned

-- all of it
pub solve_refutation_law : SolveRefutationLaw
solve_refutation_law = record {
  no_model = refuted_law.no_model;
  wider = used_law.wider;
  used = used_law.used;
  whole = whole;
  few = few;
}
