-- The core of an empty clause.
use Rattle.std.proofs.Common.{◌≡◌, ℕ, ◌+◌, ◌-◌, ◌≤◌, ◌^◌, true, false, not, ◌==◌, nat_lt, nat_le, List, [], ◌∷◌, refl, ◌∙◌, ap, ℤ, Option, Some, length, arith}
use Rattle.std.proofs.lemmas.Bool.{eq-eqb, le-leb, lt-ltb}
use Rattle.lk_model.specs.Lists.{among}
use Rattle.lk_model.specs.Formulas.Formula.{Cnf, clause_at}
use Rattle.lk_model.specs.Formulas.Crossed.{no_variable, crossed_out}
use Rattle.lk_model.specs.Chains.Chain.{chain_clause, states_its_clause}
use Rattle.lk_model.specs.declared.document.Step.{Step}
use Rattle.lk_model.specs.declared.document.Without.{Without}
use Rattle.lk_model.proofs.Booleans.{or_left}
use Rattle.general_laws.proofs.JoinLaws.{none_misstated}
use Rattle.general_laws.proofs.Numbering.{premises_in}
use Rattle.general_laws.specs.CoreLaw.{IsCore}
use Rattle.empty_clauses.specs.EmptyAt.{IsEmptyAt}

-- a step that names the position
abbrev pub empty_step : Cnf → ℕ → Step
empty_step F p = record { number = length F.clauses + 1; clause = []; first = p; turns = [] }

abbrev pub empty_line : ℕ → Without
empty_line p = record { pos = p; lits = [] }

stated : (F : Cnf) (p : ℕ) → IsEmptyAt F p → states_its_clause (premises_in F (p ∷ []) no_variable []) (empty_step F p) ≡ true
unfolding states_its_clause
stated F p h =
    let there : among (p ∷ []) p ≡ true = or_left (p == p) false (eq-eqb p p refl) in
    let chain : chain_clause (premises_in F (p ∷ []) no_variable []) p [] ≡ Some (crossed_out no_variable (clause_at F p)) = rw (le-leb p (length F.clauses) h.last, there) refl in
    let none : chain_clause (premises_in F (p ∷ []) no_variable []) p [] ≡ Some [] = chain ∙ ap (λ (c : List ℤ). let o : Option (List ℤ) = Some (crossed_out no_variable c) in o) h.empty in
    rw none refl

pub empty_core : (F : Cnf) (p : ℕ) → IsEmptyAt F p → length F.clauses ≤ 4_000_000
    → IsCore F (p ∷ []) (record { steps = empty_step F p ∷ [] }) (empty_line p ∷ [])
empty_core F p h few = record {
  positions = rw (lt-ltb 0 p h.first, le-leb p (length F.clauses) h.last) refl;
  refuted = record {
    steps =
        let same : (length F.clauses + 1 == length F.clauses + 1) ≡ true = eq-eqb (length F.clauses + 1) (length F.clauses + 1) refl in
        let fits : nat_lt (length F.clauses + 1) (2 ^ 64) ≡ true = lt-ltb (length F.clauses + 1) (2 ^ 64) (omega (arith, few)) in
        let low : nat_le 1 p ≡ true = le-leb 1 p (let f = h.first in omega (arith, f)) in
        let high : nat_le p (length F.clauses + 1 - 1) ≡ true = le-leb p (length F.clauses + 1 - 1) (let l = h.last in omega (arith, l)) in
        rw (same, fits, low, high) refl;
    whole = refl;
    stated = none_misstated F no_variable (p ∷ []) (record { steps = empty_step F p ∷ [] } ∷ []) ((ap not (stated F p h), tt), tt);
  };
  lines = rw (eq-eqb p p refl) refl;
  literals = refl;
  satisfied = rw (eq-eqb p p refl) refl;
}
