-- An empty clause is a refutation by itself.
use Rattle.std.proofs.Common.{◌≡◌, ℕ, ◌+◌, ◌-◌, ◌≤◌, ◌^◌, ◌==◌, Bool, true, not, List, [], ◌∷◌, refl, sym, ap, subst, arith, length, Option, Some, None, IfSome}
use Rattle.std.proofs.lemmas.Bool.{and_from, eq-eqb, le-leb, lt-ltb, not_from_false}
use Rattle.lk_model.specs.Lists.{among, is_between, is_empty}
use Rattle.lk_model.specs.Formulas.Formula.{Cnf, IsWithinLimits, clause_at, positions_of, first_empty}
use Rattle.lk_model.specs.Formulas.Crossed.{no_variable}
use Rattle.lk_model.specs.Formulas.Lean.{are_positions}
use Rattle.lk_model.specs.Chains.Chain.{states_its_clause}
use Rattle.lk_model.specs.Chains.Rounds.{is_trimmed, reached, empty_round}
use Rattle.lk_model.specs.declared.document.Step.{Step}
use Rattle.lk_model.proofs.Founds.{none_at, up_to_bounds}
use Rattle.lk_model.proofs.Lists.{among_here}
use Rattle.lk_model.proofs.ListTests.{all_weaker}
use Rattle.lk_model.proofs.Literals.{empty_is}
use Rattle.lk_model.specs.Checks.RoundChecks.{IsRefutation}
use Rattle.kernel_laws.proofs.Lines.{found_any, found_passes}
use Rattle.general_laws.proofs.JoinLaws.{none_misstated}
use Rattle.general_laws.proofs.Numbering.{premises_in}
use Rattle.part_copy.specs.Found.{are_filled}
use Rattle.renaming_laws.proofs.Mapped.{rising_all}
use Rattle.kernel_solve.specs.Solutions.{IsRefutedWithin}

-- FOUND

-- the clause at a position is empty
abbrev is_empty_at : Cnf → ℕ → Bool
is_empty_at F p = is_empty (clause_at F p)

-- the step of an empty clause
abbrev empty_step : Cnf → ℕ → Step
empty_step F p = record { number = length F.clauses + 1; clause = []; first = p; turns = [] }

states : (F : Cnf) (p : ℕ) → p ≤ length F.clauses → among (positions_of F) p ≡ true → clause_at F p ≡ []
    → states_its_clause (premises_in F (positions_of F) no_variable []) (empty_step F p) ≡ true
unfolding states_its_clause
states F p last there empty = rw (le-leb p (length F.clauses) last, there, empty) refl

refutes : (F : Cnf) (p : ℕ) → IsWithinLimits F → first_empty F ≡ Some p → IsRefutation F (positions_of F) (empty_round F p)
refutes F p limits found =
    let there : among (positions_of F) p ≡ true = found_any (is_empty_at F) (λ k. k == p) (positions_of F) p found (eq-eqb p p refl) in
    let empty : clause_at F p ≡ [] = empty_is (clause_at F p) (found_passes (is_empty_at F) (positions_of F) p found) in
    let b = up_to_bounds (length F.clauses) p there in
    let last = b.1 in
    let few = limits.clauses in
    record {
      steps = and_from _ _ (and_from _ true (eq-eqb (length F.clauses + 1) (length F.clauses + 1) refl) refl)
          (and_from _ true (and_from _ true (and_from _ _ (and_from _ true (lt-ltb (length F.clauses + 1) (2 ^ 64) (omega (arith, few))) refl)
          (and_from _ _ (le-leb 1 p b.0) (le-leb p (length F.clauses + 1 - 1) (omega (arith, last))))) refl) refl);
      whole = refl;
      stated = none_misstated F no_variable (positions_of F) (empty_round F p ∷ []) ((ap not (states F p last there empty), tt), tt);
    }

trimmed : (F : Cnf) (p : ℕ) → is_trimmed (empty_round F p) ≡ true
unfolding reached
trimmed F p = and_from _ true (among_here (length F.clauses + 1) (p ∷ [])) refl

pub by_empty : (F : Cnf) (p conflicts : ℕ) → IsWithinLimits F → first_empty F ≡ Some p → IsRefutedWithin F conflicts (empty_round F p)
by_empty F p conflicts limits found = record {
  refutation = refutes F p limits found;
  needed = trimmed F p;
  most = omega arith;
  empty = subst (λ (o : Option ℕ). IfSome o (λ q. empty_round F p ≡ empty_round F q)) (sym found) refl;
  first = λ none. absurd (let f : ⊥ = cc (found, none) in f);
}

-- NOT FOUND

-- no clause at a list of positions is empty, where none of the formula is
pub filled_at : (F : Cnf) (part : List ℕ) → first_empty F ≡ None → are_positions F part ≡ true → are_filled F part ≡ true
filled_at F part none rise =
    all_weaker (λ p. is_between 1 (length F.clauses) p) (λ p. not (is_empty_at F p))
    (λ p inside. not_from_false (is_empty_at F p) (none_at (is_empty_at F) F p none inside)) part (rising_all 0 (length F.clauses) part rise)
