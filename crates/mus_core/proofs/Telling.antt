-- A search over some clauses that stopped.
use Rattle.std.proofs.Common.{◌≡◌, ℕ, ◌<◌, ◌^◌, true, not, List, [], ◌∷◌, sym, ap, subst, filter, length}
use Rattle.std.proofs.lemmas.List.{append-nil}
use Rattle.lk_model.specs.Lists.{is_empty}
use Rattle.lk_model.specs.Formulas.Formula.{Cnf, clauses_at, positions_of, is_formula}
use Rattle.lk_model.specs.Formulas.Crossed.{no_variable}
use Rattle.lk_model.specs.Formulas.Lean.{are_positions}
use Rattle.lk_model.specs.declared.document.Step.{Step}
use Rattle.lk_model.specs.declared.document.Round.{Round}
use Rattle.general_laws.specs.Found.{IsUnfinished}
use Rattle.general_laws.proofs.JoinLaws.{misstated_none, unlearned_none}
use Rattle.general_laws.proofs.Learning.{round_learns}
use Rattle.part_copy.specs.Copies.{Copy, IsCopy, IsCopyOf}
use Rattle.mus_core.specs.Found.{IsStoppedAt}

-- one open round learns fewer than 3^n clauses
few_learned : (F : Cnf) (part : List ℕ) (r : Round) (conflicts : ℕ) → is_formula F ≡ true → IsUnfinished F part conflicts (r ∷ []) → conflicts < 3 ^ F.vars
few_learned F part r conflicts form h =
    let open_round = h.result in
    let learned = round_learns F part no_variable r.steps form (misstated_none F no_variable part (r ∷ []) open_round.stated).0 (unlearned_none F part r open_round.learned) in
    let few = subst (λ (us : List Step). length (filter (λ (s : Step). not (is_empty s.clause)) us) < 3 ^ F.vars) (sym (append-nil r.steps)) learned in
    subst (λ (k : ℕ). k < 3 ^ F.vars) h.all few

stopped_at : (F : Cnf) (part : List ℕ) (T : Cnf) (conflicts : ℕ) (r : Round) → is_formula T ≡ true → are_positions F part ≡ true → T ≡ clauses_at F part
    → IsUnfinished T (positions_of T) conflicts (r ∷ []) → IsStoppedAt F conflicts part T r
stopped_at F part T conflicts r form inside is h = record {
  positions = inside;
  texts_are = is;
  unfinished = h;
  few = subst (λ (n : ℕ). conflicts < 3 ^ n) (ap (λ (H : Cnf). H.vars) is) (few_learned T (positions_of T) r conflicts form h);
}

-- told of the clauses that were copied
pub stopped_copy : (F : Cnf) (ps : List ℕ) (c : Copy) (part : List ℕ) (T : Cnf) (conflicts : ℕ) (r : Round) → IsCopyOf F ps c → IsCopy c → part ≡ c.part
    → is_formula T ≡ true → T ≡ clauses_at c.formula c.part → IsUnfinished T (positions_of T) conflicts (r ∷ []) → IsStoppedAt F conflicts part T r
stopped_copy F ps c part T conflicts r of copy is form texts h =
    subst (λ (H : Cnf). IsStoppedAt H conflicts part T r) of.formula (subst (λ (qs : List ℕ). IsStoppedAt c.formula conflicts qs T r) (sym is)
    (stopped_at c.formula c.part T conflicts r form copy.part texts h))
