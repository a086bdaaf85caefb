-- What each literal of the named clauses passes, each literal of the steps' clauses passes.
use Rattle.std.proofs.Common.{◌≡◌, ℕ, Bool, true, List, [], ◌∷◌, ◌++◌, subst, ℤ, Some, inl, inr}
use Rattle.std.specs.Prelude.{⊤}
use Rattle.std.proofs.lemmas.Bool.{not-false}
use Rattle.lk_model.specs.Formulas.Literal.{complement, contains}
use Rattle.lk_model.specs.Formulas.Formula.{Cnf}
use Rattle.lk_model.specs.Formulas.Crossed.{Variables}
use Rattle.lk_model.specs.Chains.Chain.{Premises, clause_named, without, after_turns, states_its_clause}
use Rattle.lk_model.specs.declared.document.Turn.{Turn}
use Rattle.lk_model.specs.declared.document.Step.{Step}
use Rattle.kernel_laws.proofs.Clauses.{of_resolvent, of_same}
use Rattle.general_laws.proofs.Chains.{turned, chained, stated}
use Rattle.general_laws.proofs.Numbering.{premises_in, named_either}
use Rattle.general_laws.proofs.Stated.{NoneOf}
use Rattle.general_laws.proofs.Reaching.{is_misstated}

-- each literal of the clause passes
abbrev pub Passes : (ℤ → Bool) → List ℤ → Type 0
Passes t c = (l : ℤ) → contains c l ≡ true → t l ≡ true

-- each clause that a number stands for passes
abbrev pub AllPass : (ℤ → Bool) → Premises → Type 0
AllPass t from = (k : ℕ) (c : List ℤ) → clause_named from k ≡ Some c → Passes t c

-- each clause of the steps passes
abbrev pub StepsPass : (ℤ → Bool) → List Step → Type 0
StepsPass t [] = ⊤
StepsPass t (s ∷ steps) = Passes t s.clause × StepsPass t steps

-- turns keep it so
pass_after : (t : ℤ → Bool) (from : Premises) (turns : List Turn) (c e : List ℤ) → AllPass t from → Passes t c → after_turns from c turns ≡ Some e → Passes t e
pass_after t from [] c e all p h = let same : c ≡ e = cc in subst (λ (x : List ℤ). Passes t x) same p
pass_after t from (u ∷ turns) c e all p h =
    let w = turned from c u turns e h in
    pass_after t from turns (without c u.lit ++ without w.other (complement u.lit)) e all
    (λ l m. elim (of_resolvent c w.other u.lit (complement u.lit) l m) [
      | inl this ↦ p l this
      | inr that ↦ all u.with w.other w.named l that
    ]) w.rest

-- and so does a step
pass_step : (t : ℤ → Bool) (from : Premises) (s : Step) → AllPass t from → states_its_clause from s ≡ true → Passes t s.clause
pass_step t from s all h l m =
    let w = stated from s h in
    let x = chained from s.first s.turns w.clause w.is in
    pass_after t from s.turns x.start w.clause all (all s.first x.start x.named) x.rest l (of_same s.clause w.clause l w.same m)

-- through all steps of a round
pub steps_pass : (t : ℤ → Bool) (F : Cnf) (part : List ℕ) (blocked : Variables) (earlier steps : List Step) → AllPass t (premises_in F part blocked earlier)
    → NoneOf is_misstated F part blocked earlier steps → StepsPass t steps
steps_pass t F part blocked earlier [] all none = tt
steps_pass t F part blocked earlier (s ∷ steps) all none =
    let here = pass_step t (premises_in F part blocked earlier) s all (not-false (states_its_clause (premises_in F part blocked earlier) s) none.0) in (
      here,
      steps_pass t F part blocked (earlier ++ s ∷ []) steps
          (λ k c e. elim (named_either F part blocked earlier s k c e) [
            | inl before ↦ all k c before
            | inr same ↦ subst (λ (x : List ℤ). Passes t x) same here
          ]) none.1,
    )
